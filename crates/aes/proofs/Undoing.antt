-- One function that undoes another, on what a property holds of; and such functions one behind the other. Assumes nothing.
use mathlib.Core.Path.{◌≡◌, ◌∙◌, ap}

-- f goes from P to Q, and there g undoes it
pub record Undone {A B : Type 0} (P : A → Type 0) (Q : B → Type 0) (f : A → B) (g : B → A) : Type 0 where
  pub keeps : (a : A) → P a → Q (f a)
  pub back : (a : A) → P a → g (f a) ≡ a

-- each undoes the other
pub record Inverses {A B : Type 0} (P : A → Type 0) (Q : B → Type 0) (f : A → B) (g : B → A) : Type 0 where
  pub forth : Undone P Q f g
  pub back : Undone Q P g f

pub reversed : {A B : Type 0} {P : A → Type 0} {Q : B → Type 0} {f : A → B} {g : B → A} → Inverses P Q f g → Inverses Q P g f
reversed i = record { forth = i.back; back = i.forth }

both_undone : {A B C : Type 0} {P : A → Type 0} {Q : B → Type 0} {R : C → Type 0} {f : A → B} {g : B → A} {f' : B → C} {g' : C → B}
    → Undone P Q f g → Undone Q R f' g' → Undone P R (λ a. f' (f a)) (λ c. g (g' c))
both_undone {f = f} {g = g} u v =
    record {
      keeps = λ a p. v.keeps (f a) (u.keeps a p);
      back = λ a p. ap g (v.back (f a) (u.keeps a p)) ∙ u.back a p;
    }

-- one behind the other
pub behind : {A B C : Type 0} {P : A → Type 0} {Q : B → Type 0} {R : C → Type 0} {f : A → B} {g : B → A} {f' : B → C} {g' : C → B}
    → Inverses P Q f g → Inverses Q R f' g' → Inverses P R (λ a. f' (f a)) (λ c. g (g' c))
behind i j = record { forth = both_undone i.forth j.forth; back = both_undone j.back i.back }
