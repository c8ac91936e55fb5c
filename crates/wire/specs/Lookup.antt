-- A table looked up by number.
use Rattle.std.specs.Prelude.{ℕ, List, [], ◌∷◌, eqb}
use Rattle.wire.specs.Choice.{pick}

-- what the first row with a number gives, or what is given where no row has it
abbrev pub lookup : {A B : Type 0} → (A → ℕ) → (A → B) → B → List A → ℕ → B
lookup key give none [] n = none
lookup key give none (r ∷ rs) n = pick (eqb n (key r)) (give r) (lookup key give none rs n)
