-- Laws of bytes compared. Assumes nothing.
use mathlib.Core.Path.{◌≡◌, refl, sym, ap, ap₂}
use mathlib.Core.Bool.{true, false}
use mathlib.Core.List.{List, [], ◌∷◌}
use Prim.Native.Nat.{ℕ, suc}
use lib.ListN.{length}
use lib.Dec.{eqb}
use borrow.Author.Tests.{eq-eqb, eqb-true}
use Rattle.wire.specs.Same.{same_bytes}
use Rattle.wire.proofs.Choice.{true_false, and_holds, and_false}

pub same_self : (s : List ℕ) → same_bytes s s ≡ true
same_self [] = refl
same_self (a ∷ s) = rw (eq-eqb a a refl) (same_self s)

pub same_bytes_lem : (s t : List ℕ) → same_bytes s t ≡ true → s ≡ t
same_bytes_lem [] [] e = refl
same_bytes_lem [] (b ∷ t) e = true_false (sym e)
same_bytes_lem (a ∷ s) [] e = true_false (sym e)
same_bytes_lem (a ∷ s) (b ∷ t) e =
    let h = and_holds (eqb a b) (same_bytes s t) e in
    ap₂ (λ (x : ℕ) (l : List ℕ). x ∷ l) (eqb-true a b h.0) (same_bytes_lem s t h.1)

-- of another length
pub same_length : (s t : List ℕ) → (length s ≡ length t → ⊥) → same_bytes s t ≡ false
same_length [] [] h = absurd (h refl)
same_length [] (b ∷ t) h = refl
same_length (a ∷ s) [] h = refl
same_length (a ∷ s) (b ∷ t) h = rw (same_length s t (λ e. h (ap suc e))) (and_false (eqb a b))
