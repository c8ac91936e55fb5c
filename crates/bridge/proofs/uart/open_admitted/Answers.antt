-- `uart::open_admitted` meets its contract. Assumes nothing.
use mathlib.Core.Path.{refl, ap, ◌∙◌}
use Rattle.envelope.specs.Blocks.{blocks_in, nonce_number}
use Rattle.bridge.specs.Opener.{uart_text}
use Rattle.bridge.specs.Opening.{text_opened}
use Rattle.bridge.proofs.Judging.{blocks_part}
use Rattle.bridge.proofs.Opening.{long, answered_after}
use Rattle.bridge.proofs.uart.open_admitted.Goals as goal

pub returns : goal.returns
returns g c =
    let a = c.args in
    let x = a.context in
    let p = a.payload.now in
    let w = a.work.now in
    let e = c.requires.entered in
    let d = c.decipher.ensures in
    answered_after x p w e (c.settle.ensures.0 ∙ ap (text_opened x (nonce_number p)) (blocks_part (blocks_in p) (uart_text x p) w (long x p w e) d refl)) d refl c.settle.ensures.1
