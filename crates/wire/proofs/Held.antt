-- No rule of a list is broken: what that says of each of them. Assumes nothing.
use mathlib.Core.Path.{◌≡◌, refl}
use mathlib.Core.Bool.{Bool, true, false}
use mathlib.Core.List.{List, [], ◌∷◌}
use Prim.Native.Nat.{ℕ, zero, suc}
use native.Mathlib.Omega.{arith}
use lib.Dec.{T, ltb, ltb→lt}
use Rattle.wire.specs.Rules.{Rule, ◌when◌, given, or_else, first_broken}

-- no rule has the number 0: `(tt, (tt, ..))` where the numbers are literals
abbrev pub Numbered : List Rule → Type 0
Numbered [] = Unit {0}
Numbered ((n when b) ∷ rs) = T (ltb 0 n) × Numbered rs

-- none is broken, one fact for each
abbrev pub Held : List Rule → Type 0
Held [] = Unit {0}
Held ((n when b) ∷ rs) = (b ≡ false) × Held rs

one : (n : ℕ) (b : Bool) (m : ℕ) → T (ltb 0 n) → or_else (given n b) m ≡ 0 → (b ≡ false) × (m ≡ 0)
one n false m t e = (refl, e)
one zero true m t e = absurd (omega (arith, ltb→lt 0 0 t))
one (suc n) true m t e = absurd (omega arith)

pub held : (rs : List Rule) → Numbered rs → first_broken rs ≡ 0 → Held rs
held [] k e = tt
held ((n when b) ∷ rs) k e = let x = one n b (first_broken rs) k.0 e in (x.0, held rs k.1 x.1)

pub unbroken : (rs : List Rule) → Held rs → first_broken rs ≡ 0
unbroken [] h = refl
unbroken ((n when b) ∷ rs) h = rw h.0 (unbroken rs h.1)
