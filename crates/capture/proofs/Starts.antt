-- Bytes of a capture between two offsets. Assumes nothing.
use mathlib.Core.Path.{◌≡◌, refl, sym, subst}
use mathlib.Core.Bool.{Bool, true, false, ◌||◌}
use Prim.Native.Nat.{ℕ, ◌+◌, ◌≤◌, ◌<◌}
use native.Mathlib.Omega.{arith}
use mathlib.Core.List.{List}
use lib.ListN.{length, get_or}
use lib.Dec.{eqb, ltb}
use Rattle.wire.proofs.Choice.{or_fails}
use Rattle.line.specs.Escapes.{FirstStart}
use Rattle.capture.specs.Looking.{NoStartIn, NoneIn, StartFrom}
use borrow.Author.Tests.{eqb-true, eqb-false, ltb-true, ltb-false}

-- what holds at each offset between two, and at the second, holds one further on
pub all_next : (P : ℕ → Type 0) (from to next : ℕ) → next ≡ to + 1 → ((i : ℕ) → from ≤ i → i < to → P i) → P to → (i : ℕ) → from ≤ i → i < next → P i
all_next P from to next e h p i l u = go (eqb i to) refl
  where
    go : (t : Bool) → eqb i to ≡ t → P i
    go true q = subst P (sym (eqb-true i to q)) p
    go false q = h i l (let n : i ≡ to → ⊥ = eqb-false i to q in omega arith)

-- what holds between two and between the second and a third
pub all_join : (P : ℕ → Type 0) (from to end : ℕ) → ((i : ℕ) → from ≤ i → i < to → P i) → ((i : ℕ) → to ≤ i → i < end → P i) → (i : ℕ) → from ≤ i → i < end → P i
all_join P from to end h g i l u = go (ltb i to) refl
  where
    go : (t : Bool) → ltb i to ≡ t → P i
    go true q = h i l (ltb-true i to q)
    go false q = g i (ltb-false i to q) u

-- one byte more that is neither of two
pub none_more : (s : List ℕ) (from k a b : ℕ) (any : Bool) → (any ≡ false → NoneIn s from (from + k) a b)
    → ((any || eqb (get_or s (from + k) 0) a) || eqb (get_or s (from + k) 0) b) ≡ false → NoneIn s from (from + (k + 1)) a b
none_more s from k a b any h e =
    let x : ℕ = get_or s (from + k) 0 in
    let p = or_fails (any || eqb x a) (eqb x b) e in
    let q = or_fails any (eqb x a) p.0 in
    all_next (λ (i : ℕ). (get_or s i 0 ≡ a → ⊥) × (get_or s i 0 ≡ b → ⊥)) from (from + k) (from + (k + 1)) (omega arith) (h q.0)
    (eqb-false x a q.1, eqb-false x b p.1)

-- ---- the first start byte
pub start_line : {s : List ℕ} {from to : ℕ} → from ≤ length s → FirstStart s from to → StartFrom s from to
start_line h f = record { forward = f.forward; within = omega (arith, f.within); clear = f.clear; there = f.there }

-- from further on
pub start_later : {s : List ℕ} {from i to : ℕ} → from ≤ i → NoStartIn s from i → StartFrom s i to → StartFrom s from to
start_later {s} {from} {i} {to} l h g =
    record {
      forward = omega (arith, g.forward);
      within = g.within;
      clear = all_join (λ (j : ℕ). get_or s j 0 ≡ 0x7E → ⊥) from i to h g.clear;
      there = g.there;
    }
