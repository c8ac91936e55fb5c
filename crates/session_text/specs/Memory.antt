-- The packet nonces that a session remembers, as a text, and the memory that a text stands for.
use Rattle.std.specs.Prelude.{ℕ, zero, suc, ◌+◌, ◌≡◌, refl, List, [], ◌∷◌, ◌++◌, take, get_or, replicate, eqb}
use Rattle.wire.specs.Choice.{pick}
use Rattle.wire.specs.Numbers.{num, le}
use Rattle.text.specs.Ascii.{ascii}
use Rattle.text.specs.Digits.{decimal_in, decimal, hex}
use Rattle.text.specs.Reading.{before, behind, field, count, number_from, number, pairs, times, fields_from, listed}
use Rattle.session.specs.declared.NonceMemory.{NonceMemory}

-- ---- put: of the first n places, how many stand before the zero ones at the end
unfoldable pub filled : ℕ → List ℕ → ℕ
filled zero s = 0
filled (suc n) s = pick (eqb (get_or s n 0) 0) (filled n s) (suc n)

-- a place: the three bytes of a packet nonce, behind a space
abbrev pub place_text : ℕ → List ℕ
place_text n = (32 ∷ []) ++ hex (take 3 (le 4 n))

unfoldable pub places_text : List ℕ → List ℕ
places_text [] = []
places_text (n ∷ s) = place_text n ++ places_text s

-- a count without places, nothing for 0
abbrev pub count_text : ℕ → List ℕ
count_text n = pick (eqb n 0) [] (32 ∷ decimal n)

-- the count, and the places but for zero ones at the end; an empty memory is no text
abbrev pub memory_text : NonceMemory → List ℕ
memory_text m =
    pick (eqb (filled 8 m.nonces) 0)
    (count_text m.count)
    ((32 ∷ decimal m.count) ++ places_text (take (filled 8 m.nonces) m.nonces))

-- ---- read back: the field with a number, of those with a space between
abbrev pub word : ℕ → List ℕ → List ℕ
word k s = field 32 k s

-- the packet nonce that a field lists, low byte first; a byte that is not there counts as 0
abbrev pub nonce_in : List ℕ → ℕ
nonce_in s = num 3 0 (listed s)

-- the memory whose count is the field with a number
abbrev pub memory_in : ℕ → List ℕ → NonceMemory
memory_in k s =
    record {
      count = number (word k s);
      nonces =
          nonce_in (word (k + 1) s)
          ∷ nonce_in (word (k + 2) s)
          ∷ nonce_in (word (k + 3) s)
          ∷ nonce_in (word (k + 4) s)
          ∷ nonce_in (word (k + 5) s)
          ∷ nonce_in (word (k + 6) s)
          ∷ nonce_in (word (k + 7) s)
          ∷ nonce_in (word (k + 8) s)
          ∷ [];
    }

-- ---- an empty memory, one of two with a third place, and the second one back
example_empty : memory_text (record { count = 0; nonces = replicate 8 0 }) ≡ []
unfolding filled
example_empty = refl

example_two : memory_text (record { count = 2; nonces = 0x030201 ∷ 0 ∷ 0xA3A2A1 ∷ replicate 5 0 }) ≡ ascii " 2 010203 000000 a1a2a3"
unfolding filled places_text hex decimal_in
example_two = refl

example_back : memory_in 1 (ascii "x 2 010203 000000 a1a2a3") ≡ record { count = 2; nonces = 0x030201 ∷ 0 ∷ 0xA3A2A1 ∷ replicate 5 0 }
unfolding before behind field count number_from pairs times fields_from
example_back = refl
