-- Document 02 §5: each substitution undoes the other, and both equal the printed boxes, at all 256 bytes. The statement; proofs/Box.antt proves it.
use Rattle.std.specs.Prelude.{ℕ, ◌<◌, ◌≡◌, get_or}
use Rattle.aes.specs.Box.{sub_byte, printed_box, inv_sub_byte, printed_inv_box}

-- of a byte
pub record Boxes (b : ℕ) : Type 0 where
  pub undone : inv_sub_byte (sub_byte b) ≡ b
  pub redone : sub_byte (inv_sub_byte b) ≡ b
  pub printed : get_or printed_box b 0 ≡ sub_byte b
  pub printed_back : get_or printed_inv_box b 0 ≡ inv_sub_byte b

abbrev pub AtAllBytes : Type 0
AtAllBytes = (b : ℕ) → b < 256 → Boxes b
