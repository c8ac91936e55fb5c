-- Laws of a table looked up by number. Assumes nothing.
use mathlib.Core.Path.{◌≡◌, refl}
use Prim.Native.Nat.{ℕ}
use mathlib.Core.List.{List, [], ◌∷◌, ◌++◌, map}
use lib.Dec.{eqb}
use borrow.Author.Tests.{ne_eqb, eqb-true}
use Rattle.wire.specs.Lookup.{lookup}
use Rattle.wire.proofs.Choice.{pick_all}

-- ---- the default of a `match` on single numbers: what is known there, arm by arm
abbrev pub Rest : Type 0 → List ℕ → ℕ → Type 0
Rest X [] n = X
Rest X (k ∷ ks) n = Rest (X × (n ≡ k → ⊥)) ks n

-- a number is none of the keys, one fact for each
abbrev pub NoneOf : List ℕ → ℕ → Type 0
NoneOf [] n = Unit {0}
NoneOf (k ∷ ks) n = (n ≡ k → ⊥) × NoneOf ks n

split : {X : Type 0} (ks : List ℕ) (n : ℕ) → Rest X ks n → X × NoneOf ks n
split [] n r = (r, tt)
split (k ∷ ks) n r = let s = split ks n r in (s.0.0, (s.0.1, s.1))

none_of : (ks : List ℕ) (n : ℕ) → Rest (Unit {0}) ks n → NoneOf ks n
none_of ks n r = (split {X = Unit {0}} ks n r).1

-- one fact behind the other, as `Each` below asks for them
infixr 15 ◌also◌
abbrev pub ◌also◌ : {A B : Type 0} → A → B → A × B
a also b = (a, b)

module _ {A B : Type 0} (key : A → ℕ) (give : A → B) (none : B) where
  past : (rs more : List A) (n : ℕ) → NoneOf (map key rs) n → lookup key give none (rs ++ more) n ≡ lookup key give none more n
  past [] more n h = refl
  past (r ∷ rs) more n h = rw (ne_eqb n (key r) h.0) (past rs more n h.1)

  -- the default of a `match` whose arms are the first rows' numbers, in order: the rows behind them decide
  pub lookup_past : (rs more : List A) (n : ℕ) → Rest (Unit {0}) (map key rs) n → lookup key give none (rs ++ more) n ≡ lookup key give none more n
  lookup_past rs more n h = past rs more n (none_of (map key rs) n h)

  -- what holds of each row where it has the number, and of none, holds of what is found
  abbrev pub Each : (B → Type 0) → List A → ℕ → Type 0
  Each P [] n = P none
  Each P (r ∷ rs) n = (n ≡ key r → P (give r)) × Each P rs n

  pub lookup_all : (P : B → Type 0) (rs : List A) (n : ℕ) → Each P rs n → P (lookup key give none rs n)
  lookup_all P [] n h = h
  lookup_all P (r ∷ rs) n h = pick_all P (eqb n (key r)) (λ e. h.0 (eqb-true n (key r) e)) (λ e. lookup_all P rs n h.1)
