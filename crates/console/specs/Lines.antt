-- The lines of a text: each is the bytes before a newline; bytes behind the last newline are no line.
use Rattle.std.specs.Prelude.{ℕ, ◌≡◌, refl, List, [], ◌∷◌, ◌-◌, ◌==◌, length, take}
use Rattle.std.specs.List.{slice_split}

-- the parts between newlines
abbrev pub parts : List ℕ → List (List ℕ)
parts s = slice_split (λ (b : ℕ). b == 10) s

-- all parts but the last
abbrev pub lines : List ℕ → List (List ℕ)
lines s = take (length (parts s) - 1) (parts s)

example_lines : lines (97 ∷ 10 ∷ 10 ∷ 98 ∷ 99 ∷ 10 ∷ 100 ∷ []) ≡ (97 ∷ []) ∷ [] ∷ (98 ∷ 99 ∷ []) ∷ []
example_lines = refl
