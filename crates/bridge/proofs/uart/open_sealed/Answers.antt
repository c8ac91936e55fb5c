-- `uart::open_sealed` meets its contract. Assumes nothing.
use mathlib.Core.Path.{sym, ap, ◌∙◌}
use native.Mathlib.Omega.{arith}
use lib.ListN.{length}
use Prim.Native.Nat.{suc}
use Rattle.std.specs.Prelude.{Err}
use Rattle.wire.specs.declared.refusals.Refusal.{Refusal}
use Rattle.wire.proofs.Listed.{judged_err}
use Rattle.session.specs.Keys.{key_bytes}
use Rattle.bridge.specs.Opener.{admin_key, uart_entry_rules}
use Rattle.bridge.specs.Opening.{opened_as}
use Rattle.bridge.specs.Reply.{uart_refused}
use Rattle.bridge.proofs.Opening.{refused_before}
use Rattle.bridge.proofs.uart.open_sealed.Goals as goal

pub returns-in-Err : goal.returns-in-Err
returns-in-Err g c =
    let a = c.args in
    let x = a.context in
    let p = a.payload.now in
    let w = a.work.now in
    let early = judged_err (uart_entry_rules x (length w) p) (key_bytes (admin_key x)) (sym c.in-Err.is ∙ c.admitted.ensures) in
    let r = refused_before x p w (suc early.0) early.1 (λ z. omega arith) in
    (c.refused.ensures ∙ ap (λ (r : Refusal). opened_as (Err (uart_refused r)) x.session) (sym early.2) ∙ r.0, r.1)
