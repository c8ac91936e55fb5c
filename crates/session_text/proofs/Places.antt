-- Places from the end on, texts of places, and a nonce of three bytes. Assumes nothing.
use Prim.Native.Nat.{ℕ, zero, suc, ◌+◌, ◌<◌, ◌≤◌}
use mathlib.Core.Path.{◌≡◌, refl, sym, ◌∙◌}
use mathlib.Core.List.{List, [], ◌∷◌, ◌++◌}
use native.Mathlib.Nat.{add-zero}
use native.Mathlib.Numerals.{add-one}
use lib.ListN.{length, take, drop, get_or, replicate, drop_of_length-le}
use lib.Seq.{drop-cons}
use lib.Dec.{eqb, ltb}
use Rattle.wire.proofs.Choice.{true_false}
use mathlib.Core.Bool.{Bool, true, false}
use native.Mathlib.Omega.{arith}
use borrow.Author.Tests.{eq-eqb, eqb-true, ltb-true, ltb-false}
use Rattle.wire.specs.Numbers.{num}
use Rattle.wire.specs.Writing.{placed}
use Rattle.text.specs.Puts.{Puts}
use Rattle.session_text.specs.Memory.{filled, place_text, places_text}

-- ---- at a place of a list
pub places_at : (s : List ℕ) (i : ℕ) → i < length s → places_text (drop i s) ≡ place_text (get_or s i 0) ++ places_text (drop (i + 1) s)
unfolding places_text
places_at s i h = rw (add-one i, drop-cons s i 0 h)

pub places_past : (s : List ℕ) (i : ℕ) → length s ≤ i → places_text (drop i s) ≡ []
unfolding places_text
places_past s i h = rw (drop_of_length-le s h)

-- ---- what fits of some bytes into three zeros
three : (s : List ℕ) → num 4 0 (placed 0 (take 3 s) (replicate 3 0)) ≡ num 3 0 s
three [] = refl
three (a ∷ []) = refl
three (a ∷ (b ∷ [])) = refl
three (a ∷ (b ∷ (c ∷ s))) = rw (add-zero c)

pub three_read : (s : List ℕ) {p n : ℕ} {bytes : List ℕ} → Puts s 0 (replicate 3 0) p bytes → n ≡ num 4 0 bytes → n ≡ num 3 0 s
three_read s x e = e ∙ rw x.leaves (three s)

-- those from a place on are zero, and the one before it is not
pub filled_is : (s : List ℕ) (n r : ℕ) → r ≤ n → ((k : ℕ) → r ≤ k → k < n → get_or s k 0 ≡ 0) → ((i : ℕ) → r ≡ i + 1 → get_or s i 0 ≡ 0 → ⊥) → r ≡ filled n s
unfolding filled
filled_is s zero r h z l = omega arith
filled_is s (suc n) r h z l = go (eqb (get_or s n 0) 0) (ltb n r) refl refl (λ k. filled_is s n r k (λ i a b. z i a (omega arith)) l)
  where
    go : (b t : Bool) → eqb (get_or s n 0) 0 ≡ b → ltb n r ≡ t → (r ≤ n → r ≡ filled n s) → r ≡ filled (suc n) s
    go true true e f less = absurd (l n (omega (arith, ltb-true n r f)) (eqb-true _ _ e))
    go true false e f less = rw e (less (ltb-false n r f))
    go false true e f less = rw e (omega (arith, ltb-true n r f))
    go false false e f less = true_false (sym (eq-eqb _ _ (z n (ltb-false n r f) (omega arith))) ∙ e)
