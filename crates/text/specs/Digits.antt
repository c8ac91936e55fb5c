-- Numbers and bytes as texts, in ASCII.
use Rattle.std.specs.Prelude.{ℕ, zero, suc, ◌+◌, ◌/◌, ◌%◌, ◌≡◌, refl, List, [], ◌∷◌, ◌++◌, ltb}
use Rattle.wire.specs.Choice.{pick}

-- a digit below 16: 0 to 9, a to f
abbrev pub digit : ℕ → ℕ
digit d = pick (ltb d 10) (48 + d) (87 + d)

-- a number in decimal, of at most k digits
unfoldable pub decimal_in : ℕ → ℕ → List ℕ
decimal_in zero n = []
decimal_in (suc k) n = pick (ltb n 10) (digit n ∷ []) (decimal_in k (n / 10) ++ (digit (n % 10) ∷ []))

-- a number of 64 bits has at most 20 digits
abbrev pub decimal : ℕ → List ℕ
decimal n = decimal_in 20 n

-- numbers, each behind a space
unfoldable pub decimals : List ℕ → List ℕ
decimals [] = []
decimals (n ∷ ns) = (32 ∷ decimal n) ++ decimals ns

-- bytes in base 16, two digits each
unfoldable pub hex : List ℕ → List ℕ
hex [] = []
hex (b ∷ s) = (digit (b / 16) ∷ digit (b % 16) ∷ []) ++ hex s

-- ---- 507, the numbers 0 and 10, and the bytes 07 and AF
example_decimal : decimal 507 ≡ 53 ∷ 48 ∷ 55 ∷ []
unfolding decimal_in
example_decimal = refl

example_decimals : decimals (0 ∷ 10 ∷ []) ≡ 32 ∷ 48 ∷ 32 ∷ 49 ∷ 48 ∷ []
unfolding decimal_in decimals
example_decimals = refl

example_hex : hex (0x07 ∷ 0xAF ∷ []) ≡ 48 ∷ 55 ∷ 97 ∷ 102 ∷ []
unfolding hex
example_hex = refl
