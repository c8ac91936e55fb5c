-- Laws of rules in order. Assumes nothing.
use mathlib.Core.Path.{◌≡◌, refl, sym, ap, ◌∙◌}
use mathlib.Core.Bool.{Bool, true, false}
use mathlib.Core.List.{List, [], ◌∷◌, ◌++◌}
use Prim.Native.Nat.{ℕ, zero, suc}
use native.Mathlib.Omega.{arith}
use Rattle.wire.specs.Rules.{Rule, ◌when◌, given, or_else, first_broken, verdict, judge}

or_else_assoc : (a b c : ℕ) → or_else a (or_else b c) ≡ or_else (or_else a b) c
or_else_assoc zero b c = refl
or_else_assoc (suc a) b c = refl

-- two lists of rules, one behind the other
pub first_append : (xs ys : List Rule) → first_broken (xs ++ ys) ≡ or_else (first_broken xs) (first_broken ys)
first_append [] ys = refl
first_append ((n when b) ∷ xs) ys =
    ap (or_else (given n b)) (first_append xs ys) ∙ or_else_assoc (given n b) (first_broken xs) (first_broken ys)

-- none of the first list is broken: the second decides
pub first_right : (xs ys : List Rule) → first_broken xs ≡ 0 → first_broken (xs ++ ys) ≡ first_broken ys
first_right xs ys e = first_append xs ys ∙ ap (λ (n : ℕ). or_else n (first_broken ys)) e

or_else_verdict {ℓ} : {A : Type ℓ} (refuse : ℕ → A) (m n : ℕ) (good : A) → verdict refuse (or_else m n) good ≡ verdict refuse m (verdict refuse n good)
or_else_verdict refuse zero n good = refl
or_else_verdict refuse (suc m) n good = refl

-- none of two lists is broken
pub none_append : (xs ys : List Rule) → first_broken (xs ++ ys) ≡ 0 → (first_broken xs ≡ 0) × (first_broken ys ≡ 0)
none_append xs ys e = neither (first_broken xs) (first_broken ys) (sym (first_append xs ys) ∙ e)
  where
    neither : (m n : ℕ) → or_else m n ≡ 0 → (m ≡ 0) × (n ≡ 0)
    neither zero n e = (refl, e)
    neither (suc m) n e = absurd (omega arith)

-- two lists judged as one, or one after the other
pub judge_append {ℓ} : {A : Type ℓ} (refuse : ℕ → A) (xs ys : List Rule) (good : A)
    → judge refuse (xs ++ ys) good ≡ judge refuse xs (judge refuse ys good)
judge_append refuse xs ys good =
    ap (λ (n : ℕ). verdict refuse n good) (first_append xs ys) ∙ or_else_verdict refuse (first_broken xs) (first_broken ys) good

-- no rule is broken
pub judge_pass {ℓ} : {A : Type ℓ} (refuse : ℕ → A) (xs : List Rule) (good : A) → first_broken xs ≡ 0 → judge refuse xs good ≡ good
judge_pass refuse xs good e = ap (λ (n : ℕ). verdict refuse n good) e

-- an answer wrapped up
pub verdict_map {ℓ ℓ'} : {A : Type ℓ} {B : Type ℓ'} (f : A → B) (refuse : ℕ → A) (n : ℕ) (good : A)
    → f (verdict refuse n good) ≡ verdict (λ k. f (refuse k)) n (f good)
verdict_map f refuse zero good = refl
verdict_map f refuse (suc n) good = refl

-- where nothing is broken, the first rule is not, and nothing of the rest is
pub first_none : (n : ℕ) (b : Bool) (rs : List Rule) → first_broken ((suc n when b) ∷ rs) ≡ 0 → (b ≡ false) × (first_broken rs ≡ 0)
first_none n true rs e = absurd (omega arith)
first_none n false rs e = (refl, e)

-- a function of an answer, known of each refusal and, with no rule broken, of the good answer
pub judge_map {ℓ ℓ'} : {A : Type ℓ} {B : Type ℓ'} (f : A → B) (refuse : ℕ → A) (refuse' : ℕ → B) (rules : List Rule) (good : A) (good' : B)
    → ((n : ℕ) → f (refuse n) ≡ refuse' n) → (first_broken rules ≡ 0 → f good ≡ good') → f (judge refuse rules good) ≡ judge refuse' rules good'
judge_map f refuse refuse' rules good good' r g = go (first_broken rules) refl
  where
    go : (n : ℕ) → first_broken rules ≡ n → f (verdict refuse n good) ≡ verdict refuse' n good'
    go zero e = g e
    go (suc n) e = r (suc n)
