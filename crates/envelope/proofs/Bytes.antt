-- Laws on bytes for the functions that open: zeros, the rest from a place on, the first three bytes. Assumes nothing.
use mathlib.Core.Path.{◌≡◌, refl, sym, ◌∙◌}
use mathlib.Core.Bool.{Bool, true, false}
use mathlib.Core.List.{List, [], ◌∷◌}
use Prim.Native.Nat.{ℕ, zero, suc, ◌-◌, ◌≤◌, min}
use native.Mathlib.Omega.{arith}
use lib.ListN.{length, get_or, take, drop, length-drop, drop_of_length-le}
use lib.Seq.{take-suc, take_all}
use borrow.Author.Tests.{clash, ne_eqb}
use Rattle.std.specs.Prelude.{IsTrue, All, ◌↔◌}
use Rattle.std.proofs.lemmas.List.Elements.{All-nil, All-cons, All-head, All-tail}
use Rattle.envelope.specs.Characteristic.{all_zero}

-- ---- zeros, by what a look at each tells
all_found : (s : List ℕ) → all_zero s ≡ true → All (λ b. b ≡ 0) s
unfolding all_zero
all_found [] e = All-nil (λ b. b ≡ 0)
all_found (zero ∷ s) e = All-cons (λ b. b ≡ 0) zero s refl (all_found s e)
all_found (suc b ∷ s) e = absurd (clash (rw (ne_eqb (suc b) 0 (λ p. omega arith)) at e))

all_there : (s : List ℕ) → All (λ b. b ≡ 0) s → all_zero s ≡ true
unfolding all_zero
all_there [] h = refl
all_there (zero ∷ s) h = all_there s (All-tail (λ b. b ≡ 0) zero s h)
all_there (suc b ∷ s) h = absurd (omega (arith, All-head (λ b. b ≡ 0) (suc b) s h))

by_zeros : (b z : Bool) (s : List ℕ) → (IsTrue b ↔ All (λ x. x ≡ 0) s) → all_zero s ≡ z → b ≡ all_zero s
by_zeros true z s told e = sym (all_there s (told.0 refl))
by_zeros false true s told e = told.1 (all_found s e) ∙ sym e
by_zeros false false s told e = sym e

pub zeros_told : (s : List ℕ) {b : Bool} → (IsTrue b ↔ All (λ x. x ≡ 0) s) → b ≡ all_zero s
zeros_told s {b} told = by_zeros b (all_zero s) s told refl

-- from a place on, or none where that is past the end
drop_same : (s : List ℕ) (n i : ℕ) → i ≡ min n (length s) → drop i s ≡ drop n s
drop_same [] zero i e =
    let d : i ≡ 0 = omega arith in
    rw d
drop_same [] (suc n) i e = drop_of_length-le [] {i = i} (omega arith)
drop_same (a ∷ s) zero i e =
    let d : i ≡ 0 = omega arith in
    rw d
drop_same (a ∷ s) (suc n) zero e = absurd (omega arith)
drop_same (a ∷ s) (suc n) (suc i) e = drop_same s n i (omega arith)

pub rest_is : (s : List ℕ) (n i : ℕ) → i ≡ min n (length s) → take (length s - i) (drop i s) ≡ drop n s
rest_is s n i e = take_all (length s - i) (drop i s) (omega (arith, length-drop i s)) ∙ drop_same s n i e

-- ---- the first three bytes
pub three : (s : List ℕ) → 3 ≤ length s → take 3 s ≡ get_or s 0 0 ∷ get_or s 1 0 ∷ get_or s 2 0 ∷ []
three s h = rw (take-suc s 2 0 h, take-suc s 1 0 (omega arith), take-suc s 0 0 (omega arith))
