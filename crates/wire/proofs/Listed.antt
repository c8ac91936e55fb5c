-- Refusals and their numbers. Assumes nothing.
use mathlib.Core.Path.{◌≡◌, refl, sym, ap, subst, ◌∙◌}
use mathlib.Core.Bool.{Bool, true, false}
use mathlib.Core.List.{List, [], ◌∷◌, ◌++◌}
use Prim.Native.Nat.{ℕ, zero, suc}
use native.Mathlib.Omega.{arith}
use lib.Dec.{T, eqb}
use borrow.Author.Tests.{eqb-true}
use Rattle.std.specs.Prelude.{Result, Ok, Err}
use Rattle.wire.specs.Refusals.{number_of, refusal_of, refusing, checked_by}
use Rattle.wire.proofs.Rules.{judge_append, judge_pass}
use Rattle.wire.specs.Choice.{pick}
use Rattle.wire.specs.Rules.{Rule, ◌when◌, first_broken, verdict, judge}
use Rattle.wire.specs.declared.refusals.Refusal.{Refusal}

-- each number of a list of rules is a refusal's: `(tt, (tt, ..))` where the numbers are literals
abbrev pub Listed : List Rule → Type 0
Listed [] = Unit {0}
Listed ((n when b) ∷ rs) = T (eqb (number_of (refusal_of n)) n) × Listed rs

is_true : (b : Bool) → T b → b ≡ true
is_true true t = refl
is_true false t = absurd t

-- the number of a refusal that is given for a broken rule is the rule's
pub first_listed : (rs : List Rule) → Listed rs → (n : ℕ) → first_broken rs ≡ suc n → number_of (refusal_of (suc n)) ≡ suc n
first_listed [] l n e = absurd (omega arith)
first_listed ((zero when true) ∷ rs) l n e = first_listed rs l.1 n e
first_listed ((suc m when true) ∷ rs) l n e =
    subst (λ (k : ℕ). number_of (refusal_of k) ≡ k) e (eqb-true (number_of (refusal_of (suc m))) (suc m) (is_true _ l.0))
first_listed ((m when false) ∷ rs) l n e = first_listed rs l.1 n e

-- a function of an answer, known of each refusal by its number and, with no rule broken, of the good answer
pub judge_listed : {A B : Type 0} (f : Result A Refusal → B) (refuse : ℕ → B) (rules : List Rule) (good : Result A Refusal) (good' : B)
    → Listed rules → ((r : Refusal) → f (Err r) ≡ refuse (number_of r)) → (first_broken rules ≡ 0 → f good ≡ good')
    → f (judge refusing rules good) ≡ judge refuse rules good'
judge_listed f refuse rules good good' l r g = go (first_broken rules) refl
  where
    go : (n : ℕ) → first_broken rules ≡ n → f (verdict refusing n good) ≡ verdict refuse n good'
    go zero e = g e
    go (suc n) e = r (refusal_of (suc n)) ∙ ap refuse (first_listed rules l n e)

-- ---- a judge's answer
-- it refused: so does what asks more behind it
pub checked_err : {A : Type 0} (xs ys : List Rule) (good : Result A Refusal) {r : Refusal} → Err r ≡ checked_by xs → Err r ≡ judge refusing (xs ++ ys) good
checked_err xs ys good {r = r} e = go (first_broken xs) refl e ∙ sym (judge_append refusing xs ys good)
  where
    go : (n : ℕ) → first_broken xs ≡ n → Err r ≡ verdict refusing n (Ok (tt {0})) → Err r ≡ verdict refusing n (judge refusing ys good)
    go zero q h = cc
    go (suc n) q h = cc

-- it did not: no rule is broken
pub checked_ok : (xs : List Rule) → Ok tt ≡ checked_by xs → first_broken xs ≡ 0
checked_ok xs e = go (first_broken xs) e
  where
    go : (n : ℕ) → Ok (tt {0}) ≡ verdict refusing n (Ok (tt {0})) → n ≡ 0
    go zero h = refl
    go (suc n) h = cc

-- and what asks more behind it decides
pub checked_then : {A : Type 0} (xs ys : List Rule) (good : Result A Refusal) {r : Result A Refusal} → Ok tt ≡ checked_by xs → r ≡ judge refusing ys good
    → r ≡ judge refusing (xs ++ ys) good
checked_then xs ys good e h =
    h ∙ sym (judge_append refusing xs ys good ∙ judge_pass refusing xs (judge refusing ys good) (checked_ok xs e))

-- the same with another good answer
pub checked_refused : {A : Type 0} (xs : List Rule) (good : Result A Refusal) {r : Refusal} → Err r ≡ checked_by xs → Err r ≡ judge refusing xs good
checked_refused xs good {r = r} e = go (first_broken xs) e
  where
    go : (n : ℕ) → Err r ≡ verdict refusing n (Ok (tt {0})) → Err r ≡ verdict refusing n good
    go zero h = cc
    go (suc n) h = cc

pub checked_passed : {A : Type 0} (xs : List Rule) (good : Result A Refusal) → Ok tt ≡ checked_by xs → good ≡ judge refusing xs good
checked_passed xs good e = sym (judge_pass refusing xs good (checked_ok xs e))

-- ---- lists of rules
pub listed_append : (xs ys : List Rule) → Listed xs → Listed ys → Listed (xs ++ ys)
listed_append [] ys l k = k
listed_append ((n when b) ∷ xs) ys l k = (l.0, listed_append xs ys l.1 k)

pub listed_pick : (b : Bool) (xs ys : List Rule) → Listed xs → Listed ys → Listed (pick b xs ys)
listed_pick true xs ys l k = l
listed_pick false xs ys l k = k

-- what is known of the rules by an answer: none is broken where it is good, and its refusal is that of the first broken one
pub judged_ok : {A : Type 0} (rules : List Rule) {a b : A} → Ok a ≡ judge refusing rules (Ok b) → (first_broken rules ≡ 0) × (a ≡ b)
judged_ok {A = A} rules {a = a} {b = b} e = go (first_broken rules) e
  where
    go : (n : ℕ) → ◌≡◌ {A = Result A Refusal} (Ok a) (verdict refusing n (Ok b)) → (n ≡ 0) × (a ≡ b)
    go zero h = (refl, cc)
    go (suc n) h = absurd (let z : ◌≡◌ {A = ℕ} 0 1 = cc in omega arith)

pub judged_err : {A : Type 0} (rules : List Rule) (b : A) {r : Refusal} → Err r ≡ judge refusing rules (Ok b)
    → (n : ℕ) × (suc n ≡ first_broken rules) × (refusal_of (suc n) ≡ r)
judged_err {A = A} rules b {r = r} e = go (first_broken rules) refl e
  where
    go : (n : ℕ) → n ≡ first_broken rules → ◌≡◌ {A = Result A Refusal} (Err r) (verdict refusing n (Ok b))
        → (k : ℕ) × (suc k ≡ first_broken rules) × (refusal_of (suc k) ≡ r)
    go zero q h = absurd (let z : ◌≡◌ {A = ℕ} 0 1 = cc in omega arith)
    go (suc k) q h = (k, q, cc)

-- a function of an answer, known of each refusal that has a number and, with no rule broken, of the good answer
pub judge_numbered {ℓ ℓ'} : {A : Type ℓ} {B : Type ℓ'} (f : A → B) (refuse : ℕ → A) (refuse' : ℕ → B) (rules : List Rule) (good : A) (good' : B)
    → Listed rules → ((n : ℕ) → number_of (refusal_of n) ≡ n → f (refuse n) ≡ refuse' n) → (first_broken rules ≡ 0 → f good ≡ good')
    → f (judge refuse rules good) ≡ judge refuse' rules good'
judge_numbered f refuse refuse' rules good good' l r g = go (first_broken rules) refl
  where
    go : (n : ℕ) → first_broken rules ≡ n → f (verdict refuse n good) ≡ verdict refuse' n good'
    go zero e = g e
    go (suc n) e = r (suc n) (first_listed rules l n e)

-- the number that an answer gives, 0 for a good one, is the first broken rule's
pub number_listed : {A : Type 0} (number : A → ℕ) (refuse : ℕ → A) (rules : List Rule) (good : A) → Listed rules
    → ((n : ℕ) → number_of (refusal_of n) ≡ n → number (refuse n) ≡ n) → number good ≡ 0 → number (judge refuse rules good) ≡ first_broken rules
number_listed number refuse rules good l r g = go (first_broken rules) refl
  where
    go : (n : ℕ) → first_broken rules ≡ n → number (verdict refuse n good) ≡ n
    go zero e = g
    go (suc n) e = r (suc n) (first_listed rules l n e)
