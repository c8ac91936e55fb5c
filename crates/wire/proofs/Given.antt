-- Which numbers a list of rules gives, and when it gives none. Assumes nothing.
use mathlib.Core.Path.{◌≡◌, refl, sym, ap, ◌∙◌}
use mathlib.Core.Bool.{Bool, true, false, not, ◌&&◌, ◌||◌}
use mathlib.Core.List.{List, [], ◌∷◌, ◌++◌}
use Prim.Native.Nat.{ℕ, zero, suc}
use native.Mathlib.Omega.{arith}
use lib.Dec.{eqb}
use borrow.Author.Tests.{eq-eqb, eqb-true, not-true}
use Rattle.wire.specs.Rules.{Rule, ◌when◌, or_else, first_broken, verdict, judge, numbers, among, Exactly}
use Rattle.wire.proofs.Choice.{true_false, and_holds, or_right}
use Rattle.wire.proofs.Rules.{first_append}

-- a number that is given is one of theirs
pub first_among : (rs : List Rule) (n : ℕ) → first_broken rs ≡ suc n → among (suc n) (numbers rs) ≡ true
first_among [] n e = absurd (omega arith)
first_among ((m when false) ∷ rs) n e = or_right (eqb (suc n) m) (among (suc n) (numbers rs)) (first_among rs n e)
first_among ((zero when true) ∷ rs) n e = or_right (eqb (suc n) 0) (among (suc n) (numbers rs)) (first_among rs n e)
first_among ((suc m when true) ∷ rs) n e = rw (eq-eqb (suc n) (suc m) (sym e))

-- no number of a list is one of others
abbrev pub apart : List ℕ → List ℕ → Bool
apart [] ms = true
apart (n ∷ ns) ms = not (among n ms) && apart ns ms

in_both : (n : ℕ) (ns ms : List ℕ) → apart ns ms ≡ true → among n ns ≡ true → among n ms ≡ true → ⊥
in_both n [] ms a h k = true_false (sym h)
in_both n (m ∷ ns) ms a h k =
    let x = and_holds (not (among m ms)) (apart ns ms) a in
    go (eqb n m) refl h (not-true _ x.0) (λ q. in_both n ns ms x.1 q k)
  where
    go : (b : Bool) → eqb n m ≡ b → (b || among n ns) ≡ true → among m ms ≡ false → (among n ns ≡ true → ⊥) → ⊥
    go true e q z r = true_false (sym k ∙ ap (λ (i : ℕ). among i ms) (eqb-true n m e) ∙ z)
    go false e q z r = r q

-- where the number given is one of others, none of a list with numbers apart from them is broken
pub passed_first : (xs ys : List Rule) (ms : List ℕ) → apart (numbers xs) ms ≡ true → among (first_broken (xs ++ ys)) ms ≡ true → first_broken xs ≡ 0
passed_first xs ys ms a h = go (first_broken xs) refl
  where
    go : (n : ℕ) → first_broken xs ≡ n → n ≡ 0
    go zero e = refl
    go (suc n) e =
        absurd (in_both (suc n) (numbers xs) ms a (first_among xs n e)
        (ap (λ (i : ℕ). among i ms) (sym (first_append xs ys ∙ ap (λ (i : ℕ). or_else i (first_broken ys)) e)) ∙ h))

-- one that none of theirs is, is not given
pub never : (rs : List Rule) (n : ℕ) → among (suc n) (numbers rs) ≡ false → first_broken rs ≡ suc n → ⊥
never rs n h e = true_false (sym (first_among rs n e) ∙ h)

-- what is given of two lists, and is no number of the first, is given of the second, with none of the first broken
pub past_first : (xs ys : List Rule) (n : ℕ) → among (suc n) (numbers xs) ≡ false → first_broken (xs ++ ys) ≡ suc n
    → (first_broken xs ≡ 0) × (first_broken ys ≡ suc n)
past_first xs ys n h e = go (first_broken xs) refl (sym (first_append xs ys) ∙ e)
  where
    go : (k : ℕ) → first_broken xs ≡ k → or_else k (first_broken ys) ≡ suc n → (first_broken xs ≡ 0) × (first_broken ys ≡ suc n)
    go zero q z = (q, z)
    go (suc k) q z = absurd (never xs n h (q ∙ z))

-- the number that an answer gives, 0 for a good one, is the first broken rule's
pub number_given : {A : Type 0} (number : A → ℕ) (refuse : ℕ → A) (rules : List Rule) (good : A) → ((n : ℕ) → number (refuse n) ≡ n) → number good ≡ 0
    → number (judge refuse rules good) ≡ first_broken rules
number_given number refuse rules good r g = go (first_broken rules)
  where
    go : (n : ℕ) → number (verdict refuse n good) ≡ n
    go zero = g
    go (suc n) = r (suc n)

-- an answer is a good one exactly when no rule is broken
pub good_exactly : {A : Type 0} (test : A → Bool) (refuse : ℕ → A) (rules : List Rule) (good : A) → ((n : ℕ) → test (refuse n) ≡ false) → test good ≡ true
    → Exactly (test (judge refuse rules good)) (first_broken rules ≡ 0)
good_exactly test refuse rules good r g =
    record { only = go (first_broken rules); if = λ e. ap (λ (n : ℕ). test (verdict refuse n good)) e ∙ g }
  where
    go : (n : ℕ) → test (verdict refuse n good) ≡ true → n ≡ 0
    go zero e = refl
    go (suc n) e = true_false (sym e ∙ r (suc n))

-- an equivalent condition
pub exactly_as : {test : Bool} {C D : Type 0} → Exactly test C → (C → D) → (D → C) → Exactly test D
exactly_as x f g = record { only = λ e. f (x.only e); if = λ d. x.if (g d) }
