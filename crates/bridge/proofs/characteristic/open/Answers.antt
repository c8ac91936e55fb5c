-- `characteristic::open` meets its contract. Assumes nothing.
use mathlib.Core.Path.{sym, ap, ◌∙◌}
use Prim.Native.Nat.{suc}
use native.Mathlib.Omega.{arith}
use lib.ListN.{length}
use Rattle.std.specs.Prelude.{Err}
use Rattle.wire.specs.declared.refusals.Refusal.{Refusal}
use Rattle.wire.proofs.Listed.{judged_err}
use Rattle.session.specs.Keys.{key_bytes}
use Rattle.bridge.specs.Characteristic.{level_key, packet_entry_rules}
use Rattle.bridge.specs.Opening.{opened_command_as}
use Rattle.bridge.specs.Reply.{characteristic_refused}
use Rattle.bridge.proofs.Contents.{opens_packet}
use Rattle.bridge.proofs.Commands.{refused_before}
use Rattle.bridge.proofs.characteristic.open.Goals as goal

pub returns-in-Err : goal.returns-in-Err
returns-in-Err g c =
    let a = c.args in
    let k = a.link in
    let p = a.packet.now in
    let w = a.work.now in
    let early = judged_err (packet_entry_rules k (length w) p) (key_bytes (level_key k p)) (sym c.in-Err.is ∙ c.admitted.ensures) in
    let r = refused_before k p w {n = suc early.0} early.1 (λ z. omega arith) in
    opens_packet k p w (c.refused.ensures ∙ ap (λ (r : Refusal). opened_command_as (Err (characteristic_refused r)) k.connection) (sym early.2) ∙ r.0) r.1
