-- `uart::session_key` meets its contract. Assumes nothing.
use mathlib.Core.Path.{◌≡◌, sym, ap, ◌∙◌}
use mathlib.Core.Bool.{true, false}
use mathlib.Core.List.{List, [], ◌∷◌}
use Prim.Native.Nat.{ℕ}
use borrow.Author.Tests.{ne_eqb}
use Rattle.std.specs.Prelude.{Option, Some, is_some, Ok}
use Rattle.std.proofs.lemmas.Result.{err_from_is_err_and}
use Rattle.wire.proofs.Choice.{not_some}
use Rattle.wire.proofs.Listed.{checked_refused, checked_passed}
use Rattle.session.specs.Keys.{key_bytes}
use Rattle.envelope.specs.Blocks.{nonce_rule}
use Rattle.bridge.specs.Opener.{admin_key, session_rules}
use Rattle.bridge.proofs.uart.session_key.Goals as goal

pub returns-then-byte_at-ne0 : goal.returns-then-byte_at-ne0
unfolding session_rules
returns-then-byte_at-ne0 c = simp (ne_eqb _ _ (λ e. c.if-byte_at-ne0.true (c.byte_at.ensures.0 ∙ e)))

pub returns-in_default : goal.returns-in_default
unfolding session_rules
returns-in_default c =
    let none : is_some (admin_key c.args.context) ≡ false = rw (← c.key.ensures) (not_some c.key.result c.in_default.not-Some) in
    simp (sym c.byte_at.ensures.0 ∙ c.if-byte_at-ne0.false, none)

pub returns-then-not-is_there : goal.returns-then-not-is_there
unfolding session_rules
returns-then-not-is_there c =
    let held : is_some (admin_key c.args.context) ≡ true = ap (λ (o : Option (List ℕ)). is_some o) (sym c.key.ensures ∙ c.in-Some.is) in
    simp (sym c.byte_at.ensures.0 ∙ c.if-byte_at-ne0.false, held, sym c.is_there.ensures ∙ c.if-not-is_there.true)

pub returns-then-not-valid_at : goal.returns-then-not-valid_at
unfolding session_rules
returns-then-not-valid_at c =
    let held : is_some (admin_key c.args.context) ≡ true = ap (λ (o : Option (List ℕ)). is_some o) (sym c.key.ensures ∙ c.in-Some.is) in
    simp (
      sym c.byte_at.ensures.0 ∙ c.if-byte_at-ne0.false,
      held,
      sym c.is_there.ensures ∙ c.if-not-is_there.false,
      sym c.valid_at.ensures ∙ c.if-not-valid_at.true,
    )

pub returns-in_err-judge_nonce : goal.returns-in_err-judge_nonce
unfolding session_rules
returns-in_err-judge_nonce c =
    let held : is_some (admin_key c.args.context) ≡ true = ap (λ (o : Option (List ℕ)). is_some o) (sym c.key.ensures ∙ c.in-Some.is) in
    let p = err_from_is_err_and c.from_residual.result c.from_residual.ensures.1 in
    rw (p.1, p.2)
    (simp (
      sym c.byte_at.ensures.0 ∙ c.if-byte_at-ne0.false,
      held,
      sym c.is_there.ensures ∙ c.if-not-is_there.false,
      sym c.valid_at.ensures ∙ c.if-not-valid_at.false,
    )
    (checked_refused (nonce_rule c.args.context.session.memory c.args.payload.now ∷ []) (Ok (key_bytes (admin_key c.args.context))) c.in_err-judge_nonce.ensures))

pub returns : goal.returns
unfolding session_rules
returns c =
    let key : admin_key c.args.context ≡ Some c.in-Some.key = sym c.key.ensures ∙ c.in-Some.is in
    let held : is_some (admin_key c.args.context) ≡ true = ap (λ (o : Option (List ℕ)). is_some o) key in
    simp (
      sym c.byte_at.ensures.0 ∙ c.if-byte_at-ne0.false,
      held,
      sym c.is_there.ensures ∙ c.if-not-is_there.false,
      sym c.valid_at.ensures ∙ c.if-not-valid_at.false,
    )
    (ap Ok (ap key_bytes (sym key)) ∙ checked_passed (nonce_rule c.args.context.session.memory c.args.payload.now ∷ []) (Ok (key_bytes (admin_key c.args.context))) c.in_ok-judge_nonce.ensures)
