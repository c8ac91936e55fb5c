-- `session_data::encipher` meets its contract. Assumes nothing.
use mathlib.Core.Path.{◌∙◌, sym, ap}
use mathlib.Core.List.{List}
use Prim.Native.Nat.{ℕ}
use Rattle.aes.specs.Cipher.{cipher_under}
use Rattle.aes.proofs.Cipher.{cipher_is}
use Rattle.session_data.proofs.encipher.Goals as goal

pub returns : goal.returns
returns c =
    let a = c.args in
    c.encrypt_block.ensures ∙ ap (λ (keys : List (List ℕ)). cipher_under keys a.block) c.expand_key-keys.ensures ∙ sym (cipher_is a.key a.block)
