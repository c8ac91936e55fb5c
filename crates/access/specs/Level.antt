-- User levels and their numbers ('Characteristic packet').
use Rattle.std.specs.Prelude.{◌≡◌, ℕ, Bool, ◌||◌, List, [], ◌∷◌, eqb, Option, Some, None, Result, MatchResult}
use Rattle.std.specs.Result.{result_ok}
use Rattle.wire.specs.Choice.{pick}
use Rattle.wire.specs.Lookup.{lookup}
use Rattle.access.specs.declared.Level.{Level}
use Rattle.access.specs.declared.Level.TheVariants.{Admin, Member, Basic, Setup}
use Rattle.access.specs.declared.UnknownLevel.{UnknownLevel}

-- 0 admin, 1 member, 2 basic, 100 setup
abbrev pub level_number : Level → ℕ
level_number Admin = 0
level_number Member = 1
level_number Basic = 2
level_number Setup = 100

abbrev pub levels : List Level
levels = Admin ∷ Member ∷ Basic ∷ Setup ∷ []

-- the level that has a number
abbrev pub level_of : ℕ → Option Level
level_of n = lookup level_number Some None levels n

-- a level has the number
abbrev pub is_level : ℕ → Bool
is_level n = eqb n 0 || (eqb n 1 || (eqb n 2 || eqb n 100))

-- the number that was read, none where no level has it
abbrev pub number_read : Option Level → List ℕ
number_read (Some l) = level_number l ∷ []
number_read None = []

-- a number is read as the level that has it, or else as an error that holds it
abbrev pub Reads : ℕ → Result Level UnknownLevel → Type 0
Reads n r =
    (number_read (result_ok r) ≡ pick (is_level n) (n ∷ []) [])
    × MatchResult r (λ level. level_of n ≡ Some level) (λ e. (level_of n ≡ None) × (e.0 ≡ n))
