-- `characteristic::connection_key` meets its contract. Assumes nothing.
use mathlib.Core.Path.{◌≡◌, sym, ap, ◌∙◌}
use mathlib.Core.Bool.{true, false}
use mathlib.Core.List.{List, [], ◌∷◌}
use Prim.Native.Nat.{ℕ}
use Rattle.std.specs.Prelude.{Option, Some, is_some, Ok}
use Rattle.std.proofs.lemmas.Result.{err_from_is_err_and}
use Rattle.wire.proofs.Choice.{not_some}
use Rattle.wire.proofs.Listed.{checked_refused, checked_passed}
use Rattle.session.specs.Keys.{key_bytes}
use Rattle.envelope.specs.Blocks.{nonce_rule}
use Rattle.bridge.specs.Characteristic.{level_key, connection_rules}
use Rattle.bridge.proofs.characteristic.connection_key.Goals as goal

pub returns-in_default : goal.returns-in_default
unfolding connection_rules
returns-in_default c =
    let a = c.args in
    let none : is_some (level_key a.link a.packet.now) ≡ false = rw (← c.key.ensures) (not_some c.key.result c.in_default.not-Some) in
    simp none

pub returns-then-not-is_there : goal.returns-then-not-is_there
unfolding connection_rules
returns-then-not-is_there c =
    let a = c.args in
    let key : level_key a.link a.packet.now ≡ Some c.in-Some.key = sym c.key.ensures ∙ c.in-Some.is in
    let held : is_some (level_key a.link a.packet.now) ≡ true = ap (λ (o : Option (List ℕ)). is_some o) key in
    simp (held, sym c.is_there.ensures ∙ c.if-not-is_there.true)

pub returns-in_err-judge_nonce : goal.returns-in_err-judge_nonce
unfolding connection_rules
returns-in_err-judge_nonce c =
    let a = c.args in
    let key : level_key a.link a.packet.now ≡ Some c.in-Some.key = sym c.key.ensures ∙ c.in-Some.is in
    let held : is_some (level_key a.link a.packet.now) ≡ true = ap (λ (o : Option (List ℕ)). is_some o) key in
    let p = err_from_is_err_and c.from_residual.result c.from_residual.ensures.1 in
    rw (p.1, p.2) (simp (held, sym c.is_there.ensures ∙ c.if-not-is_there.false) (checked_refused (nonce_rule a.link.connection.memory a.packet.now ∷ []) (Ok (key_bytes (level_key a.link a.packet.now))) c.in_err-judge_nonce.ensures))

pub returns : goal.returns
unfolding connection_rules
returns c =
    let a = c.args in
    let key : level_key a.link a.packet.now ≡ Some c.in-Some.key = sym c.key.ensures ∙ c.in-Some.is in
    let held : is_some (level_key a.link a.packet.now) ≡ true = ap (λ (o : Option (List ℕ)). is_some o) key in
    simp (held, sym c.is_there.ensures ∙ c.if-not-is_there.false) (ap Ok (ap key_bytes (sym key)) ∙ checked_passed (nonce_rule a.link.connection.memory a.packet.now ∷ []) (Ok (key_bytes (level_key a.link a.packet.now))) c.in_ok-judge_nonce.ensures)
