-- Eight masks are their eight elements. Assumes nothing.
use mathlib.Core.Path.{◌≡◌, refl}
use mathlib.Core.List.{List, [], ◌∷◌}
use Prim.Native.Nat.{ℕ}
use native.Mathlib.Omega.{arith}
use lib.ListN.{length}
use Rattle.result.specs.Result.{masks_of}

pub eight_masks : (m : List ℕ) → length m ≡ 8 → masks_of m ≡ m
eight_masks [] e = absurd (omega arith)
eight_masks (a ∷ []) e = absurd (omega arith)
eight_masks (a ∷ b ∷ []) e = absurd (omega arith)
eight_masks (a ∷ b ∷ c ∷ []) e = absurd (omega arith)
eight_masks (a ∷ b ∷ c ∷ d ∷ []) e = absurd (omega arith)
eight_masks (a ∷ b ∷ c ∷ d ∷ f ∷ []) e = absurd (omega arith)
eight_masks (a ∷ b ∷ c ∷ d ∷ f ∷ g ∷ []) e = absurd (omega arith)
eight_masks (a ∷ b ∷ c ∷ d ∷ f ∷ g ∷ h ∷ []) e = absurd (omega arith)
eight_masks (a ∷ b ∷ c ∷ d ∷ f ∷ g ∷ h ∷ i ∷ []) e = refl
eight_masks (a ∷ b ∷ c ∷ d ∷ f ∷ g ∷ h ∷ i ∷ j ∷ m) e = absurd (omega arith)
