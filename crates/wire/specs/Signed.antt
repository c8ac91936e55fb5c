-- Signed numbers of one byte.
use Rattle.std.specs.Prelude.{ℕ, ◌-◌, ◌≡◌, refl, ◌||◌, ltb, ℤ, pos, negsuc}
use Rattle.wire.specs.Choice.{pick}

-- the number that a byte stands for: 0 to 127 for itself, 128 to 255 for -128 to -1; what is no byte stands for itself
abbrev pub signed : ℕ → ℤ
signed b = pick (ltb b 128 || ltb 255 b) (pos b) (negsuc (255 - b))

-- the byte that stands for a number from -128 to 127
abbrev pub unsigned : ℤ → ℕ
unsigned (pos n) = n
unsigned (negsuc n) = 255 - n

-- ---- two's complement: 7F is 127, 80 is -128, C5 is -59, FF is -1
example_127 : signed 0x7F ≡ pos 127
example_127 = refl

example_128 : signed 0x80 ≡ negsuc 127
example_128 = refl

example_59 : signed 0xC5 ≡ negsuc 58
example_59 = refl

example_1 : signed 0xFF ≡ negsuc 0
example_1 = refl
