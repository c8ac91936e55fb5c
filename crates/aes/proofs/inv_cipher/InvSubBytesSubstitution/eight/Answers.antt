-- `aes::inv_cipher::InvSubBytesSubstitution::eight` meets its contract. Assumes nothing.
use mathlib.Core.Path.{◌≡◌}
use Prim.Native.Nat.{ℕ}
use borrow.Author.Rules.{rules}
use Rattle.aes.specs.Box.{inverse, inv_affine, inv_sub_byte}
use Rattle.aes.specs.Packed.{each}
use Rattle.aes.proofs.Bytes.{inverse_byte, inv_sub_byte_lem}
use Rattle.aes.proofs.Box.{inv_affine_byte}
use Rattle.aes.proofs.Elements.{U64, both_applied}
use Rattle.aes.proofs.inv_cipher.InvSubBytesSubstitution.eight.Goals as goal

back : (w i v : ℕ) → U64 w → i ≡ each inv_affine w → v ≡ each inverse i → v ≡ each inv_sub_byte w
unfolding inv_sub_byte
back w i v = both_applied inv_affine inverse inv_affine_byte (λ b h. inverse_byte b)

pub returns-clause-each : goal.returns-clause-each
returns-clause-each c = search (back, rules)

pub returns-clause-bytes : goal.returns-clause-bytes
returns-clause-bytes c = inv_sub_byte_lem
