-- Looking ahead in the bytes of a frame: document 01, 'Line'.
use Rattle.std.specs.Prelude.{ℕ, zero, suc, ◌+◌, ◌≡◌, refl, List, [], ◌∷◌, ◌||◌, eqb}
use Rattle.std.specs.Int.Bits.{bit_xor}
use Rattle.wire.specs.Choice.{pick}

-- what comes first where some unescaped bytes are looked for, and how many bytes it is away on the line, itself counted
pub data Ahead : Type 0 where
  -- the last of them; with it all of them, and what stands behind them
  whole : ℕ → List ℕ → List ℕ → Ahead
  -- a 7E
  start : ℕ → Ahead
  -- the byte behind a 5C, which is none of 3E, 1C and 7E
  bad_escape : ℕ → Ahead
  -- the end of the capture
  end : Ahead

-- the same from one unescaped byte further back, w bytes on the line
unfoldable pub before : ℕ → ℕ → Ahead → Ahead
before w v (whole n vs rest) = whole (w + n) (v ∷ vs) rest
before w v (start n) = start (w + n)
before w v (bad_escape n) = bad_escape (w + n)
before w v end = end

-- behind a 5C: 3E and 1C stand for themselves XOR 40; `more` looks for the other bytes
unfoldable pub behind_escape : (List ℕ → Ahead) → List ℕ → Ahead
behind_escape more [] = end
behind_escape more (b ∷ bs) =
    pick (eqb b 0x7E)
    (start 2)
    (pick (eqb b 0x3E || eqb b 0x1C) (before 2 (bit_xor b 0x40) (more bs)) (bad_escape 2))

-- n unescaped bytes are looked for
unfoldable pub ahead : ℕ → List ℕ → Ahead
ahead zero bs = whole 0 [] bs
ahead (suc n) [] = end
ahead (suc n) (b ∷ bs) =
    pick (eqb b 0x7E)
    (start 1)
    (pick (eqb b 0x5C) (behind_escape (ahead n) bs) (before 1 b (ahead n bs)))

-- ---- three bytes of a frame, two of them escaped, and a fourth behind them; a 7E before the third, and behind a 5C
example_whole : ahead 3 (0x5C ∷ 0x3E ∷ 0x5C ∷ 0x1C ∷ 0x40 ∷ 0x41 ∷ []) ≡ whole 5 (0x7E ∷ 0x5C ∷ 0x40 ∷ []) (0x41 ∷ [])
unfolding ahead behind_escape before
example_whole = refl

example_start : ahead 3 (0x5C ∷ 0x3E ∷ 0x41 ∷ 0x7E ∷ []) ≡ start 4
unfolding ahead behind_escape before
example_start = refl

example_escaped_start : ahead 3 (0x41 ∷ 0x41 ∷ 0x5C ∷ 0x7E ∷ []) ≡ start 4
unfolding ahead behind_escape before
example_escaped_start = refl

example_bad : ahead 3 (0x41 ∷ 0x5C ∷ 0x41 ∷ []) ≡ bad_escape 3
unfolding ahead behind_escape before
example_bad = refl
