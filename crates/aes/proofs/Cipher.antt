-- What callers need of the cipher, so that its definition stays shut. Assumes nothing.
use mathlib.Core.Path.{◌≡◌, refl}
use mathlib.Core.List.{List, []}
use Prim.Native.Nat.{ℕ, ◌+◌, ◌*◌, ◌%◌}
use lib.ListN.{length, get_or}
use Rattle.aes.specs.Field.{◌⊕◌}
use Rattle.aes.specs.Box.{sub_byte}
use Rattle.aes.specs.Cipher.{cell, to_state, add_round_key, rounds, from, round_key, key_expansion, cipher_under, cipher}
use Rattle.aes.specs.InvCipher.{inv_cipher_under, inv_cipher}
use Rattle.wire.specs.Numbers.{Bytes}
use Rattle.aes.proofs.Bytes.{xor_byte, sub_byte_lem, state_bytes, key_bytes}

-- under the key's round keys
pub cipher_is : (k b : List ℕ) → cipher k b ≡ cipher_under (key_expansion k) b
unfolding cipher
cipher_is k b = refl

pub inv_cipher_is : (k b : List ℕ) → inv_cipher k b ≡ inv_cipher_under (key_expansion k) b
unfolding inv_cipher
inv_cipher_is k b = refl

-- whatever the key and the block
pub length_cipher : (k b : List ℕ) → length (cipher k b) ≡ 16
unfolding cipher cipher_under
length_cipher k b = refl

pub length_inv_cipher : (k b : List ℕ) → length (inv_cipher k b) ≡ 16
unfolding inv_cipher inv_cipher_under
length_inv_cipher k b = refl

-- under a key of bytes, whatever the block
pub cipher_byte : (k b : List ℕ) → Bytes k → Bytes (cipher k b)
unfolding cipher cipher_under key_expansion from
cipher_byte k b h =
    let s : List (List ℕ) = rounds (key_expansion k) (add_round_key (get_or (key_expansion k) 0 []) (to_state b)) 9 in
    state_bytes (λ r c. sub_byte (cell s r ((c + r) % 4)) ⊕ get_or (round_key k 10) (r + 4 * c) 0)
    (λ r c. xor_byte (sub_byte_lem (cell s r ((c + r) % 4))) (key_bytes k h 10 (r + 4 * c)))
