-- Document 02 §3: deciphering undoes enciphering for every key and block, and the other way round. The statement; proofs/Inverse.antt proves it.
use Rattle.std.specs.Prelude.{ℕ, ◌≡◌, List, length}
use Rattle.wire.specs.Numbers.{Bytes}
use Rattle.aes.specs.Cipher.{cipher}
use Rattle.aes.specs.InvCipher.{inv_cipher}

-- a key, or a block
pub record SixteenBytes (l : List ℕ) : Type 0 where
  pub sixteen : length l ≡ 16
  pub bytes : Bytes l

-- under a key of 16 bytes
pub record BothWays (key : List ℕ) : Type 0 where
  pub deciphered : (block : List ℕ) → SixteenBytes block → inv_cipher key (cipher key block) ≡ block
  pub enciphered : (block : List ℕ) → SixteenBytes block → cipher key (inv_cipher key block) ≡ block
