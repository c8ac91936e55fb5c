-- `session_data::decipher` meets its contract. Assumes nothing.
use mathlib.Core.Path.{◌∙◌, sym, ap₂}
use Rattle.aes.specs.InvCipher.{inv_cipher_under}
use Rattle.aes.proofs.Cipher.{inv_cipher_is}
use Rattle.session_data.proofs.Judging.{stored_whole}
use Rattle.session_data.proofs.decipher.Goals as goal

pub returns : goal.returns
returns c =
    let a = c.args in
    c.decrypt_block.ensures ∙ ap₂ inv_cipher_under c.expand_key-keys.ensures (stored_whole c.requires c.store.ensures)
    ∙ sym (inv_cipher_is a.key a.block.now)
