-- What a writer answers, and what it leaves in the room lent to it.
use Rattle.std.specs.Prelude.{ℕ, ◌+◌, ◌≡◌, Bool, List, [], ◌∷◌, ◌++◌, length, take, drop, ltb, Result, Ok, Err}
use Rattle.wire.specs.Rules.{Rule, ◌when◌, judge}
use Rattle.wire.specs.Content.{Judged, accepted, refused}
use Rattle.wire.specs.Refusals.{number_of, refusing}
use Rattle.wire.specs.declared.refusals.Refusal.{Refusal}

-- 25: the room from a place on is shorter than needed
abbrev pub no_room : ℕ → List ℕ → List ℕ → Rule
no_room at bytes room = 25 when ltb (length room) (at + length bytes)

-- bytes from a place on, every other byte as it was
abbrev pub placed : ℕ → List ℕ → List ℕ → List ℕ
placed at bytes room = take at room ++ (bytes ++ drop (at + length bytes) room)

-- an answer's number: the image's length, or the refusal's
abbrev pub written_number : Result ℕ Refusal → Judged ℕ ℕ
written_number (Ok n) = accepted n
written_number (Err r) = refused (number_of r)

-- the answer and the room after a call, by the rules that the writer keeps: a refusal leaves the room as it was
pub record Stores (rules : List Rule) (at : ℕ) (bytes room : List ℕ) (answer : Result ℕ Refusal) (after : List ℕ) : Type 0 where
  pub number : written_number answer ≡ judge refused rules (accepted (length bytes))
  -- the answer by the cases of the enum
  pub answers : answer ≡ judge refusing rules (Ok (length bytes))
  pub leaves : after ≡ judge (λ n. room) rules (placed at bytes room)

-- a writer of an image, which stands at the front: 17 for what its reader would refuse, then 25
abbrev pub writer_rules : Bool → List ℕ → List ℕ → List Rule
writer_rules bad image room = (17 when bad) ∷ no_room 0 image room ∷ []

abbrev pub Writes : Bool → List ℕ → List ℕ → Result ℕ Refusal → List ℕ → Type 0
Writes bad image room answer after = Stores (writer_rules bad image room) 0 image room answer after
