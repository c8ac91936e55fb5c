-- Refusals in order: a list of rules, each a number and whether it is broken. The first broken one is given.
use Rattle.std.specs.Prelude.{◌≡◌, Bool, true, false, ◌||◌, List, [], ◌∷◌, ℕ, zero, suc, eqb}

-- a row of document 01's table of refusals: the number, given when the test holds
infix 20 ◌when◌
pub data Rule : Type 0 where
  ◌when◌ : ℕ → Bool → Rule

abbrev pub given : ℕ → Bool → ℕ
given n true = n
given n false = 0

-- the first number, unless it is 0
abbrev pub or_else : ℕ → ℕ → ℕ
or_else zero m = m
or_else (suc n) m = suc n

-- the number of the first broken rule, 0 where none is broken
abbrev pub first_broken : List Rule → ℕ
first_broken [] = 0
first_broken ((n when b) ∷ rs) = or_else (given n b) (first_broken rs)

-- what follows from that number: a refusal, or the good answer at 0
abbrev pub verdict {ℓ} : {A : Type ℓ} → (ℕ → A) → ℕ → A → A
verdict refuse zero good = good
verdict refuse (suc n) good = refuse (suc n)

-- a list of rules judged
abbrev pub judge {ℓ} : {A : Type ℓ} → (ℕ → A) → List Rule → A → A
judge refuse rs good = verdict refuse (first_broken rs) good

-- the numbers that a list of rules can give
abbrev pub numbers : List Rule → List ℕ
numbers [] = []
numbers ((n when b) ∷ rs) = n ∷ numbers rs

abbrev pub among : ℕ → List ℕ → Bool
among n [] = false
among n (m ∷ ms) = eqb n m || among n ms

-- something holds exactly when a test does
pub record Exactly (test : Bool) (C : Type 0) : Type 0 where
  pub only : test ≡ true → C
  pub if : C → test ≡ true
