-- What the frame writer refuses, and what its own functions promise.
use Rattle.std.specs.Prelude.{ℕ, ◌+◌, Bool, not, ◌||◌, List, [], ◌∷◌, ◌++◌, eqb, ltb}
use Rattle.wire.specs.Numbers.{le}
use Rattle.frame.specs.Image.{escape}

-- 17: a wrapper type other than 0 or 128, or a payload above 507 bytes
unfoldable pub bad_frame : ℕ → ℕ → Bool
bad_frame wrapper len = not (eqb wrapper 0 || eqb wrapper 128) || ltb 507 len

-- what stands before the payload, from the size on
abbrev pub header_of : ℕ → ℕ → List ℕ
header_of wrapper len = le 2 (len + 5) ++ (1 ∷ 0 ∷ wrapper ∷ [])

-- a start byte, and three parts escaped
abbrev pub sent : List ℕ → List ℕ → List ℕ → List ℕ
sent head payload tail = 0x7E ∷ (escape head ++ (escape payload ++ escape tail))
