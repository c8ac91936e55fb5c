-- `uart::judge` meets its contract. Assumes nothing.
use mathlib.Core.Path.{◌≡◌}
use borrow.Author.Rules.{rules}
use borrow.Author.Tests.{ne_eqb}
use Rattle.std.proofs.lemmas.Result.{err_from_is_err_and}
use Rattle.session.specs.Keys.{key_bytes}
use Rattle.bridge.specs.Opener.{admin_key, uart_entry_rules}
use Rattle.bridge.specs.Opening.{frame_entry_rules}
use Rattle.bridge.proofs.Judging.{judged_refused, judged_passed}
use Rattle.bridge.proofs.uart.judge.Goals as goal

pub returns-then-major-ne1 : goal.returns-then-major-ne1
unfolding frame_entry_rules
returns-then-major-ne1 c = simp (ne_eqb _ _ c.if-major-ne1.true)

pub returns-in-0 : goal.returns-in-0
unfolding frame_entry_rules
returns-in-0 c = rw (c.if-major-ne1.false, c.in-0.is)

pub returns-in_err-admitted-in-128 : goal.returns-in_err-admitted-in-128
unfolding frame_entry_rules
returns-in_err-admitted-in-128 c =
    let a = c.args in
    let p = err_from_is_err_and c.from_residual.result c.from_residual.ensures.1 in
    rw (p.1, p.2, c.if-major-ne1.false, c.in-128.is)
    (judged_refused (uart_entry_rules a.context a.room a.payload.now) (key_bytes (admin_key a.context)) c.in_err-admitted-in-128.ensures)

pub returns-in_ok-admitted-in-128 : goal.returns-in_ok-admitted-in-128
unfolding frame_entry_rules
returns-in_ok-admitted-in-128 c =
    let a = c.args in
    rw (c.if-major-ne1.false, c.in-128.is)
    (judged_passed (uart_entry_rules a.context a.room a.payload.now) (key_bytes (admin_key a.context)) c.in_ok-admitted-in-128.ensures)

pub returns-in_default-2 : goal.returns-in_default-2
unfolding frame_entry_rules
returns-in_default-2 c =
    let sealed : c.args.wrapper ≡ 128 → ⊥ = search rules in
    let plain : c.args.wrapper ≡ 0 → ⊥ = search rules in
    rw c.if-major-ne1.false (simp (ne_eqb _ _ sealed, ne_eqb _ _ plain))
