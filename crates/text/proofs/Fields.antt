-- The turns of the loops that read. Assumes nothing.
use mathlib.Core.Path.{◌≡◌, refl, sym, ap, ◌∙◌}
use mathlib.Core.List.{List, [], ◌∷◌, ◌++◌}
use Prim.Native.Nat.{ℕ, zero, suc, ◌+◌, ◌*◌, ◌≤◌, ◌<◌}
use native.Mathlib.Numerals.{add-one}
use native.Mathlib.Omega.{arith}
use lib.ListN.{length, drop, get_or, drop_of_length-le}
use lib.Seq.{drop-cons}
use lib.Dec.{eqb, leb}
use mathlib.Core.Bool.{Bool, true, false, cond, ◌&&◌}
use Rattle.std.proofs.lemmas.List.Sums.{sum_by-cons}
use Rattle.std.specs.Prelude.{count_by, slice_get}
use Rattle.std.specs.List.{slice_split, onto_first}
use Rattle.std.specs.Iterator.{Yields}
use Rattle.std.proofs.lemmas.List.{get_or_default}
use Rattle.std.proofs.lemmas.List.Splits.{length-slice_split}
use Rattle.std.proofs.lemmas.Iterator.{YieldsList}
use Rattle.std.proofs.lemmas.Iterator.Consumers.{YieldsList-turn, YieldsList-end}
use Rattle.std.proofs.Common.{Option, Some, None, unwrap_or, option_map, Bor}
use borrow.Author.Tests.{eq-eqb, ne_eqb}
use Rattle.wire.specs.Choice.{pick}
use Rattle.text.specs.Reading.{before, behind, field, count, number, number_from, with_digit, value, pairs, times, repeated, fields_from}

-- ---- a field
onto_front : (b : ℕ) (ps : List (List ℕ)) → get_or (onto_first b ps) 0 [] ≡ b ∷ get_or ps 0 []
onto_front b [] = refl
onto_front b (p ∷ ps) = refl

onto_behind : (b k : ℕ) (ps : List (List ℕ)) → get_or (onto_first b ps) (suc k) [] ≡ get_or ps (suc k) []
onto_behind b k [] = refl
onto_behind b k (p ∷ ps) = refl

none_field : (sep k : ℕ) → field sep k [] ≡ []
unfolding field before behind
none_field sep zero = refl
none_field sep (suc k) = none_field sep k

none_split : (sep k : ℕ) → get_or (slice_split (λ (b : ℕ). eqb b sep) []) k [] ≡ []
none_split sep zero = refl
none_split sep (suc k) = refl

-- the parts that a split gives
split_field : (sep k : ℕ) (s : List ℕ) → get_or (slice_split (λ (b : ℕ). eqb b sep) s) k [] ≡ field sep k s
unfolding field before behind
split_field sep k [] = none_split sep k ∙ sym (none_field sep k)
split_field sep k (b ∷ s) = go (eqb b sep) refl (λ j. split_field sep j s) k
  where
    go : (t : Bool) → eqb b sep ≡ t → ((j : ℕ) → get_or (slice_split (λ (b : ℕ). eqb b sep) s) j [] ≡ field sep j s) → (k : ℕ) → get_or (slice_split (λ (b : ℕ). eqb b sep) (b ∷ s)) k [] ≡ field sep k (b ∷ s)
    go true e h zero = rw e
    go true e h (suc k) = rw e (h k)
    go false e h zero = rw e (onto_front b _ ∙ ap (λ (l : List ℕ). b ∷ l) (h 0))
    go false e h (suc k) = rw e (onto_behind b k _ ∙ h (suc k))

got_or : (l : List (List ℕ)) (k : ℕ) (r : Option (Bor (List ℕ))) (d : Bor (List ℕ)) → d.now ≡ []
    → option_map (λ (x : Bor (List ℕ)). x.now) r ≡ slice_get l k → (unwrap_or r d).now ≡ get_or l k []
got_or [] k None d e h = e
got_or [] k (Some x) d e h = cc
got_or (a ∷ l) zero None d e h = cc
got_or (a ∷ l) zero (Some x) d e h = cc
got_or (a ∷ l) (suc k) r d e h = got_or l k r d e h

pub field_or : (s : List ℕ) (sep k : ℕ) (r : Option (Bor (List ℕ))) (d : Bor (List ℕ)) → d.now ≡ []
    → option_map (λ (x : Bor (List ℕ)). x.now) r ≡ slice_get (slice_split (λ (b : ℕ). eqb b sep) s) k → (unwrap_or r d).now ≡ field sep k s
field_or s sep k r d e h = got_or _ k r d e h ∙ split_field sep k s

-- ---- a count
pub count_is : (sep : ℕ) (s : List ℕ) → count_by (λ (b : ℕ). eqb b sep) s ≡ count sep s
unfolding count
count_is sep [] = refl
count_is sep (b ∷ s) =
    sum_by-cons (λ (x : ℕ). cond (eqb x sep) 1 0) b s
    ∙ rw (count_is sep s) (elim (eqb b sep) as (λ (t : Bool). cond t 1 0 + count sep s ≡ pick t 1 0 + count sep s) [ true ↦ refl | false ↦ refl ])

-- ---- a number
pub number_more : (s : List ℕ) (i n : ℕ) {m t : ℕ} → i < length s → (leb 48 (get_or s i 0) && leb (get_or s i 0) 57) ≡ true → m ≡ with_digit n (get_or s i 0)
    → number_from n (drop i s) ≡ t → number_from m (drop (i + 1) s) ≡ t
unfolding number_from
number_more s i n below d e q = rw (e, add-one i) (rw (drop-cons s i 0 below, d) at q)

pub number_stop : (s : List ℕ) (i n : ℕ) {t : ℕ} → i < length s → (leb 48 (get_or s i 0) && leb (get_or s i 0) 57) ≡ false → number_from n (drop i s) ≡ t → n ≡ t
unfolding number_from
number_stop s i n below d q = rw (drop-cons s i 0 below, d) at q

pub number_past : (s : List ℕ) (i n : ℕ) {t : ℕ} → length s ≤ i → number_from n (drop i s) ≡ t → n ≡ t
unfolding number_from
number_past s i n h q = rw (drop_of_length-le {A = ℕ} s {i = i} h) at q

-- ---- pairs of digits, and fields one behind the other
pub pairs_chunk : (p t : List ℕ) {s : List ℕ} {a b : ℕ} → length p ≡ 2 → s ≡ p ++ t → a ≡ value (get_or p 0 0) → b ≡ value (get_or p 1 0)
    → pairs s ≡ ((16 * a + b) ∷ []) ++ pairs t
unfolding pairs
pairs_chunk [] t l e f g = absurd (omega arith)
pairs_chunk (x ∷ []) t l e f g = absurd (omega arith)
pairs_chunk (x ∷ (y ∷ [])) t l e f g = rw (e, f, g)
pairs_chunk (x ∷ (y ∷ (z ∷ p))) t l e f g = absurd (omega arith)

pub short_pairs : (s : List ℕ) → length s < 2 → pairs s ≡ []
unfolding pairs
short_pairs [] h = refl
short_pairs (a ∷ []) h = refl
short_pairs (a ∷ (b ∷ s)) h = absurd (omega arith)

pub times_at : (n m : ℕ) (s : List ℕ) → n ≡ suc m → times n s ≡ s ++ times m s
unfolding times
times_at n m s e = rw e

pub times_past : (n : ℕ) (s : List ℕ) → n ≡ 0 → times n s ≡ []
unfolding times
times_past n s e = rw e

pub repeated_once : (s : List ℕ) {piece : List ℕ} {n : ℕ} → piece ≡ field 42 0 s → n ≡ count 42 s → n ≡ 0 → times 1 (pairs piece) ≡ repeated s
repeated_once s p c z = rw (p, eq-eqb (count 42 s) 0 (sym c ∙ z))

pub repeated_often : (s : List ℕ) {piece often : List ℕ} {n m : ℕ} → piece ≡ field 42 0 s → n ≡ count 42 s → (n ≡ 0 → ⊥) → often ≡ field 42 1 s
    → m ≡ number often → times m (pairs piece) ≡ repeated s
repeated_often s p c z f e =
    let k : count 42 s ≡ 0 → ⊥ = λ q. z (c ∙ q) in
    rw (p, e, f, ne_eqb (count 42 s) 0 k)

pub fields_at : (k j n m : ℕ) (s : List ℕ) → j ≡ suc k → n ≡ suc m → fields_from k n s ≡ repeated (field 43 k s) ++ fields_from j m s
unfolding fields_from
fields_at k j n m s e f = rw (e, f)

pub fields_past : (k n : ℕ) (s : List ℕ) → n ≡ 0 → fields_from k n s ≡ []
unfolding fields_from
fields_past k n s e = rw e

-- ---- the pieces of a split, in a loop
pub split_length : (sep : ℕ) (s : List ℕ) → length (slice_split (λ (b : ℕ). eqb b sep) s) ≡ suc (count sep s)
split_length sep s = omega (arith, length-slice_split (λ (b : ℕ). eqb b sep) s, count_is sep s)

module _ {S : Type 0} {steps : S → Option (Bor (List ℕ)) → S → Type 0} {s : S} (xs : List (Bor (List ℕ))) (t : S) (y : Yields steps s xs t) (sep : ℕ) (l : List ℕ) where
  pub piece_turn : (r : Option (Bor (List ℕ))) (u : S) (x : Bor (List ℕ)) → r ≡ Some x → steps t r u
      → YieldsList steps (λ x. x.now) s (slice_split (λ (b : ℕ). eqb b sep) l) → (x.now ≡ field sep (length xs) l) × (length xs < suc (count sep l))
  piece_turn r u x e k road =
      let h = YieldsList-turn road xs t y r u x e k in
      (h.1 ∙ get_or_default _ (length xs) x.now [] h.0 ∙ split_field sep (length xs) l, omega (arith, h.0, split_length sep l))

  pub piece_end : (r : Option (Bor (List ℕ))) (u : S) → r ≡ None → steps t r u
      → YieldsList steps (λ x. x.now) s (slice_split (λ (b : ℕ). eqb b sep) l) → length xs ≡ suc (count sep l)
  piece_end r u e k road = (YieldsList-end road xs t y r u e k).1 ∙ split_length sep l
