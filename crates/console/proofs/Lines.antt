-- A text's first line, and the lines behind it. Assumes nothing.
use Rattle.std.specs.Prelude.{ℕ, suc, ◌≡◌, refl, List, [], ◌∷◌, ◌+◌, ◌-◌, ◌<◌, ◌≤◌, Bool, true, false, eqb, Option, Some, None, length, take, drop, position}
use Rattle.std.specs.List.{onto_first, position_or_len, before_first, after_first}
use Rattle.std.proofs.Common.{ap, arith, length-drop}
use Rattle.std.proofs.lemmas.List.Splits.{length-slice_split, slice_split_first}
use Rattle.std.proofs.lemmas.List.Sums.{position_or_len_is}
use Rattle.std.proofs.lemmas.List.Quantifiers.{position-Some}
use lib.Dec.{ltb}
use lib.Seq.{take_all}
use borrow.Author.Tests.{ltb-false}
use Rattle.console.specs.Lines.{parts, lines}

abbrev newline : ℕ → Bool
newline b = eqb b 10

-- ---- no newline
one_part : (s : List ℕ) → length s ≤ position_or_len newline s → parts s ≡ s ∷ []
one_part [] h = refl
one_part (b ∷ s) h = go (eqb b 10) refl (one_part s)
  where
    go : (t : Bool) → eqb b 10 ≡ t → (length s ≤ position_or_len newline s → parts s ≡ s ∷ []) → parts (b ∷ s) ≡ (b ∷ s) ∷ []
    go true e more = absurd (omega (arith, rw e at h))
    go false e more = rw e (ap (onto_first b) (more (omega (arith, rw e at h))))

not_both : (o : Option ℕ) (i : ℕ) → o ≡ Some i → o ≡ None → ⊥
not_both o i a b = cc

none_before : (s : List ℕ) → position newline s ≡ None → length s ≤ position_or_len newline s
none_before s h = go (ltb (position_or_len newline s) (length s)) refl
  where
    go : (t : Bool) → ltb (position_or_len newline s) (length s) ≡ t → length s ≤ position_or_len newline s
    go true e = absurd (not_both (position newline s) (position_or_len newline s) (rw e refl) h)
    go false e = ltb-false _ _ e

pub no_line : (s : List ℕ) → position newline s ≡ None → lines s ≡ []
no_line s h = rw (one_part s (none_before s h))

-- ---- a first newline
first_of : (x : List ℕ) (ps : List (List ℕ)) → 0 < length ps → take (length (x ∷ ps) - 1) (x ∷ ps) ≡ x ∷ take (length ps - 1) ps
first_of x ps h = let e : length (x ∷ ps) - 1 ≡ suc (length ps - 1) = omega arith in ap (λ (n : ℕ). take n (x ∷ ps)) e

first_line : (s : List ℕ) → position_or_len newline s < length s → lines s ≡ before_first newline s ∷ lines (after_first newline s)
first_line s h = rw (slice_split_first newline s 0 h) (first_of _ _ (omega (arith, length-slice_split newline (after_first newline s))))

pub line_at : (s : List ℕ) (i : ℕ) → position newline s ≡ Some i
    → (lines s ≡ take i s ∷ lines (take (length s - (i + 1)) (drop (i + 1) s))) × (length (take (length s - (i + 1)) (drop (i + 1) s)) < length s)
line_at s i h =
    let f = position-Some newline s i 0 h in
    let e = position_or_len_is newline s i 0 (omega (arith, f.0)) f.2 (λ _. f.1) in
    let rest : take (length s - (i + 1)) (drop (i + 1) s) ≡ drop (i + 1) s = take_all _ _ (omega (arith, length-drop (i + 1) s)) in
    let first = first_line s (omega (arith, e, f.0)) in
    rw rest ((rw e at first), omega (arith, f.0, length-drop (i + 1) s))
