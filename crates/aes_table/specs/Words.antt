-- Document 02 §9, the faster build: a state as four words of four bytes, a column each, row 0 the low byte; and the table of words. What the public functions
-- promise is said by the definitions of `aes`; contracts of private functions alone speak of these.
use Rattle.std.specs.Prelude.{ℕ, ◌+◌, ◌-◌, ◌%◌, List, [], ◌∷◌, map, get_or}
use Rattle.wire.specs.Numbers.{num, le}
use Rattle.aes.specs.Field.{◌•◌}
use Rattle.aes.specs.Box.{printed_box}
use Rattle.aes.specs.Cipher.{four, rows, mixed}

-- the state of four words
abbrev pub state_of : List ℕ → List (List ℕ)
state_of w = rows (λ r c. get_or (le 4 (get_or w c 0)) r 0)

-- a column turned down n rows, below the last row comes the first
abbrev pub down : ℕ → List ℕ → List ℕ
down n c = four (λ r. get_or c ((r + 4 - n) % 4) 0)

-- FIPS 197, section 5.1.3: a column's four bytes, mixed
abbrev pub mixed_column : ℕ → ℕ → ℕ → ℕ → List ℕ
mixed_column a b c d = mixed a b c d ∷ mixed b c d a ∷ mixed c d a b ∷ mixed d a b c ∷ []

-- what a byte in row 0 adds to each of them
abbrev pub products : ℕ → List ℕ
products s = 2 • s ∷ s ∷ s ∷ 3 • s ∷ []

-- the table: at each byte the products of its entry in the box as printed (`aes`, Boxes: it is SubBytes at all 256 bytes)
unfoldable pub table : List ℕ
table = map (λ s. num 4 0 (products s)) printed_box
