-- Numbers of several bytes, low byte first.
use Rattle.std.specs.Prelude.{ℕ, zero, suc, ◌+◌, ◌*◌, ◌/◌, ◌%◌, ◌<◌, List, [], ◌∷◌, get_or}

-- every element is a byte
abbrev pub Bytes : List ℕ → Type 0
Bytes l = (i : ℕ) → get_or l i 0 < 256

-- the number of w bytes that stands at a place; a byte past the end counts as 0
abbrev pub num : ℕ → ℕ → List ℕ → ℕ
num zero at s = 0
num (suc zero) at s = get_or s at 0
num (suc (suc w)) at s = get_or s at 0 + 256 * num (suc w) (at + 1) s

-- the w bytes of a number below 256 ^ w
abbrev pub le : ℕ → ℕ → List ℕ
le zero v = []
le (suc zero) v = v ∷ []
le (suc (suc w)) v = v % 256 ∷ le (suc w) (v / 256)
