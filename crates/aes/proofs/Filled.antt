-- A list that is filled from the front, one element a turn, by a rule. Assumes nothing.
use mathlib.Core.Path.{◌≡◌, ◌∙◌, refl, sym, ap}
use mathlib.Core.List.{List}
use Prim.Native.Nat.{ℕ, zero, suc, ◌+◌, ◌<◌}
use native.Mathlib.Nat.{add-suc, suc-add, add-zero, zero-add, not-suc-le-zero, le_of_suc-le-suc}
use native.Mathlib.Omega.{arith}
use borrow.Author.Count.{below_more}
use lib.ListN.{length, get_or, set}
use lib.Seq.{get_or-set_same, get_or-set_other, ext_get_or}
use Rattle.aes.specs.Cipher.{from}

module _ {A : Type 0} (f : ℕ → A) (d : A) where
  length_from : (i n : ℕ) → length (from f i n) ≡ n
  unfolding from
  length_from i zero = refl
  length_from i (suc n) = ap suc (length_from (suc i) n)

  get_or_from : (i n k : ℕ) → k < n → get_or (from f i n) k d ≡ f (i + k)
  unfolding from
  get_or_from i zero k h = absurd (not-suc-le-zero h)
  get_or_from i (suc n) zero h = rw add-zero
  get_or_from i (suc n) (suc k) h = get_or_from (suc i) n k (le_of_suc-le-suc h) ∙ ap f (suc-add i k ∙ sym (add-suc i k))

  -- one more element
  pub filled_more : (l : List A) (i : ℕ) (x : A) → i < length l → ((k : ℕ) → k < i → get_or l k d ≡ f k) → x ≡ f i
      → (k : ℕ) → k < i + 1 → get_or (set l i x) k d ≡ f k
  filled_more l i x h all e =
      below_more (λ (k : ℕ). get_or (set l i x) k d ≡ f k) i
      (λ k lt. get_or-set_other l i k x d (λ p. omega arith) ∙ all k lt)
      (get_or-set_same l i x d h ∙ e)

  -- all of them
  pub filled : (l : List A) (n : ℕ) → length l ≡ n → ((k : ℕ) → k < n → get_or l k d ≡ f k) → l ≡ from f 0 n
  filled l n e all =
      ext_get_or d l (from f 0 n) (e ∙ sym (length_from 0 n))
      (λ k h. all k (omega arith) ∙ sym (get_or_from 0 n k (omega arith) ∙ ap f (zero-add k)))

-- numbers by their places
pub places : (n : ℕ) (s : List ℕ) → length s ≡ n → s ≡ from (λ i. get_or s i 0) 0 n
places n s e = filled (λ i. get_or s i 0) 0 s n e (λ k h. refl)
