-- `put` meets its contract. Assumes nothing.
use mathlib.Core.Path.{ap}
use native.Mathlib.Omega.{arith}
use lib.ListN.{length}
use Rattle.capture.proofs.Filling.{room_as, puts_nothing, puts_refusal, puts_frame}
use Rattle.capture.proofs.put.Goals as goal

pub returns-in-None : goal.returns-in-None
returns-in-None c = puts_nothing c.args.found c.args.store.now c.in-None.is

pub returns-in-Some-Frame : goal.returns-in-Some-Frame
returns-in-Some-Frame c =
    let q = c.in-Some-Frame.is in
    let e = rw (rw q at c.in-Some-Frame.field-0-is) at q in
    let r = room_as e c.requires.0 in
    puts_frame c.args.found c.args.store.now e c.frame.ensures c.frame_payload.ensures
    (omega (arith, r.stores, r.fits.1, ap length c.frame_payload.ensures)) c.store.ensures

pub returns-in-Some-Refused : goal.returns-in-Some-Refused
returns-in-Some-Refused c =
    let q = c.in-Some-Refused.is in
    puts_refusal c.args.found c.args.store.now (rw (rw q at c.in-Some-Refused.field-0-is) at q) c.refusal.ensures
