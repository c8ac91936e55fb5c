-- A text cut at a separator, and what its fields stand for.
use Rattle.std.specs.Prelude.{ℕ, zero, suc, ◌+◌, ◌*◌, ◌-◌, ◌^◌, ◌≡◌, refl, ◌&&◌, List, [], ◌∷◌, ◌++◌, eqb, ltb, leb}
use Rattle.wire.specs.Choice.{pick}

-- what stands before the first separator: everything where there is none
unfoldable pub before : ℕ → List ℕ → List ℕ
before sep [] = []
before sep (b ∷ s) = pick (eqb b sep) [] (b ∷ before sep s)

-- what stands behind it: nothing where there is none
unfoldable pub behind : ℕ → List ℕ → List ℕ
behind sep [] = []
behind sep (b ∷ s) = pick (eqb b sep) s (behind sep s)

-- the field with a number, counted from 0
unfoldable pub field : ℕ → ℕ → List ℕ → List ℕ
field sep zero s = before sep s
field sep (suc k) s = field sep k (behind sep s)

-- how many separators there are
unfoldable pub count : ℕ → List ℕ → ℕ
count sep [] = 0
count sep (b ∷ s) = pick (eqb b sep) 1 0 + count sep s

-- a number with one more decimal digit; from 10^18 on it stays as it is
abbrev pub with_digit : ℕ → ℕ → ℕ
with_digit n b = pick (ltb n (10 ^ 18)) (10 * n + (b - 48)) n

-- the number whose decimal digits stand at the front
unfoldable pub number_from : ℕ → List ℕ → ℕ
number_from n [] = n
number_from n (b ∷ s) = pick (leb 48 b && leb b 57) (number_from (with_digit n b) s) n

abbrev pub number : List ℕ → ℕ
number s = number_from 0 s

-- the value of a digit in base 16, 0 to 9 and a to f; 0 for any other byte
abbrev pub value : ℕ → ℕ
value b = pick (leb 48 b && leb b 57) (b - 48) (pick (leb 97 b && leb b 102) (b - 87) 0)

-- bytes of two digits each
unfoldable pub pairs : List ℕ → List ℕ
pairs [] = []
pairs (a ∷ []) = []
pairs (a ∷ (b ∷ s)) = ((16 * value a + value b) ∷ []) ++ pairs s

unfoldable pub times : ℕ → List ℕ → List ℕ
times zero s = []
times (suc n) s = s ++ times n s

-- bytes, behind * how often: 00*96
abbrev pub repeated : List ℕ → List ℕ
repeated s = times (pick (eqb (count 42 s) 0) 1 (number (field 42 1 s))) (pairs (field 42 0 s))

-- n such fields from the one with a number on
unfoldable pub fields_from : ℕ → ℕ → List ℕ → List ℕ
fields_from k zero s = []
fields_from k (suc n) s = repeated (field 43 k s) ++ fields_from (suc k) n s

-- the bytes that a text lists, with + between the fields: 0709+00*96+11
abbrev pub listed : List ℕ → List ℕ
listed s = fields_from 0 (suc (count 43 s)) s

-- ---- 07+00*3+af, and its second field
example_listed : listed (48 ∷ 55 ∷ 43 ∷ 48 ∷ 48 ∷ 42 ∷ 51 ∷ 43 ∷ 97 ∷ 102 ∷ []) ≡ 0x07 ∷ 0 ∷ 0 ∷ 0 ∷ 0xAF ∷ []
unfolding before behind field count number_from pairs times fields_from
example_listed = refl

example_field : field 43 1 (48 ∷ 55 ∷ 43 ∷ 48 ∷ 48 ∷ 42 ∷ 51 ∷ 43 ∷ 97 ∷ 102 ∷ []) ≡ 48 ∷ 48 ∷ 42 ∷ 51 ∷ []
unfolding before behind field
example_field = refl
