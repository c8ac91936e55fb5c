-- The unescaped byte that stands at a place of a line.
use Rattle.std.specs.Prelude.{ℕ, ◌+◌, ◌≤◌, ◌<◌, ◌≡◌, List, Bool, true, false, ◌||◌, length, get_or, eqb, max}
use Rattle.std.specs.Int.Bits.{bit_xor}

-- 3E and 1C stand for another byte behind a 5C
abbrev pub stands_for_byte : ℕ → Bool
stands_for_byte e = eqb e 0x3E || eqb e 0x1C

-- a byte stands at a place, so many bytes on the line
pub data StandsAt (s : List ℕ) (at byte width : ℕ) : Type 0 where
  -- itself
  plain : at < length s → width ≡ 1 → byte ≡ get_or s at 0 → (get_or s at 0 ≡ 0x7E → ⊥) → (get_or s at 0 ≡ 0x5C → ⊥)
      → StandsAt s at byte width
  -- behind a 5C: 3E for 7E, and 1C for 5C, which are themselves XOR 40
  escaped : at + 1 < length s → width ≡ 2 → byte ≡ bit_xor (get_or s (at + 1) 0) 0x40 → get_or s at 0 ≡ 0x5C
      → stands_for_byte (get_or s (at + 1) 0) ≡ true → StandsAt s at byte width

-- no byte stands at a place
pub data NothingAt (s : List ℕ) (at : ℕ) : Type 0 where
  -- the end
  ended : length s ≤ at → NothingAt s at
  -- a 7E
  start : at < length s → get_or s at 0 ≡ 0x7E → NothingAt s at
  -- a 5C with nothing behind it
  cut : at < length s → get_or s at 0 ≡ 0x5C → length s ≤ at + 1 → NothingAt s at
  -- a 5C before a byte that stands for no other
  bad : at + 1 < length s → get_or s at 0 ≡ 0x5C → stands_for_byte (get_or s (at + 1) 0) ≡ false → NothingAt s at

-- the first 7E from a place on; the end, or that place where it lies behind the end, if there is none
pub record FirstStart (s : List ℕ) (from to : ℕ) : Type 0 where
  pub forward : from ≤ to
  pub within : to ≤ max from (length s)
  pub clear : (i : ℕ) → from ≤ i → i < to → get_or s i 0 ≡ 0x7E → ⊥
  pub there : to < length s → get_or s to 0 ≡ 0x7E
