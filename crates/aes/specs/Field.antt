-- FIPS 197, section 4: bytes as elements of the field of 256 elements.
use Rattle.std.specs.Prelude.{ℕ, zero, suc, ◌*◌, ◌/◌, ◌%◌}
use Rattle.std.specs.Int.Bits.{bit_xor}

-- section 4.1: the sum
infixl 60 ◌⊕◌
abbrev pub ◌⊕◌ : ℕ → ℕ → ℕ
a ⊕ b = bit_xor a b

-- section 4.2.1: x times b, modulo x^8 + x^4 + x^3 + x + 1
unfoldable pub xtime : ℕ → ℕ
xtime b = b * 2 % 256 ⊕ b / 128 % 2 * 0x1b

-- a, taken as often as a binary digit says
abbrev pub digit_times : ℕ → ℕ → ℕ
digit_times zero a = 0
digit_times (suc d) a = a

-- the low n digits of k, times a
unfoldable pub times : ℕ → ℕ → ℕ → ℕ
times zero k a = 0
times (suc n) k a = digit_times (k % 2) a ⊕ times n (k / 2) (xtime a)

-- section 4.2: the product
infixl 70 ◌•◌
unfoldable pub ◌•◌ : ℕ → ℕ → ℕ
k • a = times 8 k a
