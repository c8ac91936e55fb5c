-- `text_of` meets its contract. Assumes nothing.
use mathlib.Core.Path.{◌≡◌, ◌∙◌, sym, ap}
use mathlib.Core.List.{List}
use Prim.Native.Nat.{ℕ}
use Rattle.std.specs.Prelude.{Option, Some, is_some, Ok}
use Rattle.std.proofs.lemmas.Result.{err_from_is_err_and}
use Rattle.wire.proofs.Choice.{not_some}
use Rattle.wire.proofs.Listed.{checked_refused, checked_passed}
use Rattle.aes.specs.InvCipher.{inv_cipher}
use Rattle.session.specs.Keys.{key_bytes}
use Rattle.session_data.specs.SessionData.{data_key, text_of, data_text_rules}
use Rattle.session_data.proofs.Judging.{wrong_length_lem, key_absent, key_there}
use Rattle.session_data.proofs.text_of.Goals as goal

pub returns-then-block-ne16 : goal.returns-then-block-ne16
returns-then-block-ne16 c = let a = c.args in wrong_length_lem (data_key a.keys a.mode) a.block.now c.if-block-ne16.true

pub returns-in_default : goal.returns-in_default
returns-in_default c =
    let a = c.args in
    key_absent (data_key a.keys a.mode) a.block.now c.if-block-ne16.false (rw (← c.data_key.ensures) (not_some c.data_key.result c.in_default.not-Some))

pub returns-in_err-judge_data : goal.returns-in_err-judge_data
returns-in_err-judge_data c =
    let a = c.args in
    let k = data_key a.keys a.mode in
    let held : k ≡ Some c.in-Some.key = sym c.data_key.ensures ∙ c.in-Some.is in
    let text : c.decipher-text.result ≡ text_of k a.block.now = c.decipher-text.ensures ∙ ap (λ (o : Option (List ℕ)). inv_cipher (key_bytes o) a.block.now) (sym held) in
    let p = err_from_is_err_and c.from_residual.result c.from_residual.ensures.1 in
    rw (p.1, p.2)
    (key_there k a.block.now c.if-block-ne16.false (ap (λ (o : Option (List ℕ)). is_some o) held)
    (checked_refused (data_text_rules (text_of k a.block.now)) (Ok (text_of k a.block.now)) (rw (← text) c.in_err-judge_data.ensures)))

pub returns : goal.returns
returns c =
    let a = c.args in
    let k = data_key a.keys a.mode in
    let held : k ≡ Some c.in-Some.key = sym c.data_key.ensures ∙ c.in-Some.is in
    let text : c.decipher-text.result ≡ text_of k a.block.now = c.decipher-text.ensures ∙ ap (λ (o : Option (List ℕ)). inv_cipher (key_bytes o) a.block.now) (sym held) in
    key_there k a.block.now c.if-block-ne16.false (ap (λ (o : Option (List ℕ)). is_some o) held)
    (ap Ok text ∙ checked_passed (data_text_rules (text_of k a.block.now)) (Ok (text_of k a.block.now)) (rw (← text) c.in_ok-judge_data.ensures))
