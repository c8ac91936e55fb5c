-- A text in a lent room, from a place on: what fits of it.
use Rattle.std.specs.Prelude.{ℕ, ◌+◌, ◌-◌, ◌≡◌, List, length, take}
use Rattle.wire.specs.Writing.{placed}

-- what fits of a text from a place on
abbrev pub fitting : ℕ → List ℕ → List ℕ → List ℕ
fitting at s room = take (length room - at) s

-- the place behind it, and the room after it: every other byte stays
pub record Puts (s : List ℕ) (at : ℕ) (room : List ℕ) (behind : ℕ) (after : List ℕ) : Type 0 where
  pub place : behind ≡ at + length (fitting at s room)
  pub leaves : after ≡ placed at (fitting at s room) room
