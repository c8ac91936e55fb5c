-- CRC-16 of document 01, 'Line': polynomial 1021, start FFFF, no reflection, no final XOR.
use Rattle.std.specs.Prelude.{ℕ, zero, suc, ◌*◌, ◌/◌, ◌%◌, ◌<◌, ◌≡◌, refl, List, [], ◌∷◌, get_or}
use Rattle.std.specs.Int.Bits.{bit_xor}

-- one bit: a shift to the left by 1, and the polynomial where a one falls out at the top
unfoldable pub crc_bit : ℕ → ℕ
crc_bit c = bit_xor (c * 2 % 0x10000) (c / 0x8000 * 0x1021)

abbrev pub crc_bits : ℕ → ℕ → ℕ
crc_bits zero c = c
crc_bits (suc n) c = crc_bits n (crc_bit c)

-- one byte: it goes in at the top, and eight bits are shifted out
unfoldable pub crc_byte : ℕ → ℕ → ℕ
crc_byte c b = crc_bits 8 (bit_xor c (b * 0x100))

unfoldable pub crc_from : ℕ → List ℕ → ℕ
crc_from c [] = c
crc_from c (b ∷ bs) = crc_from (crc_byte c b) bs

-- the CRC of a list of bytes
abbrev pub crc_of : List ℕ → ℕ
crc_of bs = crc_from 0xFFFF bs

-- over the nine ASCII digits 123456789
digits : crc_of (0x31 ∷ 0x32 ∷ 0x33 ∷ 0x34 ∷ 0x35 ∷ 0x36 ∷ 0x37 ∷ 0x38 ∷ 0x39 ∷ []) ≡ 0x29B1
unfolding crc_from crc_byte crc_bit
digits = refl

-- what the code asks of a table: for each byte, what n bits leave of it at the top of an empty CRC
abbrev pub Shifted : ℕ → List ℕ → Type 0
Shifted n table = (k : ℕ) → k < 256 → get_or table k 0 ≡ crc_bits n (k * 0x100)
