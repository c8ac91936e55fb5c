-- `write_session_data` meets its contract. Assumes nothing.
use mathlib.Core.Path.{◌≡◌, ◌∙◌, sym, ap, ap₂}
use mathlib.Core.List.{List}
use Prim.Native.Nat.{ℕ}
use Rattle.std.specs.Prelude.{Option, Some, is_some}
use Rattle.wire.proofs.Choice.{not_some}
use Rattle.aes.specs.Cipher.{cipher}
use Rattle.session.specs.Keys.{key_bytes}
use Rattle.session_data.specs.SessionData.{data_key, data_image}
use Rattle.session_data.proofs.Judging.{short_room, no_key_lem, with_key}
use Rattle.session_data.proofs.write_session_data.Goals as goal

pub returns-then-out-lt16 : goal.returns-then-out-lt16
returns-then-out-lt16 c =
    let a = c.args in
    short_room (data_key a.keys a.mode) a.nonce a.validation a.out.now c.if-out-lt16.true

pub returns-in_default : goal.returns-in_default
returns-in_default c =
    let a = c.args in
    no_key_lem (data_key a.keys a.mode) a.nonce a.validation a.out.now c.if-out-lt16.false
    (rw (← c.data_key.ensures) (not_some c.data_key.result c.in_default.not-Some))

pub returns : goal.returns
unfolding data_image
returns c =
    let a = c.args in
    let k = data_key a.keys a.mode in
    let held : k ≡ Some c.in-Some.key = sym c.data_key.ensures ∙ c.in-Some.is in
    with_key k a.nonce a.validation a.out.now (ap (λ (o : Option (List ℕ)). is_some o) held)
    (c.encipher.ensures ∙ ap₂ cipher (ap key_bytes (sym held)) c.text.ensures) c.store.ensures
