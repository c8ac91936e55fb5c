-- Elements of the field packed in a number. Contracts of private functions alone speak of it.
use Rattle.std.specs.Prelude.{ℕ, zero, suc, ◌+◌, ◌*◌, ◌/◌, ◌%◌, List, ◌++◌, get_or}
use Rattle.aes.specs.Field.{◌⊕◌}
use Rattle.aes.specs.Cipher.{four}

-- f 0, f 1, .. n of them, a byte each, the first the lowest
unfoldable pub packed : ℕ → (ℕ → ℕ) → ℕ
packed zero f = 0
packed (suc n) f = packed n (λ i. f (suc i)) * 256 + f 0

-- the byte at a place
abbrev pub element : ℕ → ℕ → ℕ
element w zero = w % 256
element w (suc i) = element (w / 256) i

-- f of each of a number's eight bytes
abbrev pub each : (ℕ → ℕ) → ℕ → ℕ
each f w = packed 8 (λ i. f (element w i))

-- the bytes of two rows of a state, one row behind the other
abbrev pub two_rows : List ℕ → List ℕ → ℕ → ℕ
two_rows a b i = get_or (four (λ c. get_or a c 0) ++ four (λ c. get_or b c 0)) i 0

-- a byte as a polynomial, times x, modulo x^8 + r; xtime is so with 0x1b
unfoldable pub times_x : ℕ → ℕ → ℕ
times_x r b = b * 2 % 256 ⊕ b / 128 % 2 * r
