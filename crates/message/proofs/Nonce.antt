-- Five bytes are their five elements. Assumes nothing.
use mathlib.Core.Path.{◌≡◌, refl}
use mathlib.Core.List.{List, [], ◌∷◌}
use Prim.Native.Nat.{ℕ}
use native.Mathlib.Omega.{arith}
use lib.ListN.{length, get_or}

pub five_elements : (s : List ℕ) → length s ≡ 5 → s ≡ get_or s 0 0 ∷ get_or s 1 0 ∷ get_or s 2 0 ∷ get_or s 3 0 ∷ get_or s 4 0 ∷ []
five_elements [] h = absurd (omega arith)
five_elements (a ∷ []) h = absurd (omega arith)
five_elements (a ∷ b ∷ []) h = absurd (omega arith)
five_elements (a ∷ b ∷ c ∷ []) h = absurd (omega arith)
five_elements (a ∷ b ∷ c ∷ d ∷ []) h = absurd (omega arith)
five_elements (a ∷ b ∷ c ∷ d ∷ e ∷ []) h = refl
five_elements (a ∷ b ∷ c ∷ d ∷ e ∷ x ∷ s) h = absurd (omega arith)
