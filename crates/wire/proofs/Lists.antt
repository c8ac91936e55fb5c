-- Laws on lists that the library lacks. Assumes nothing.
use mathlib.Core.Path.{◌≡◌, refl, sym, ap, ◌∙◌}
use mathlib.Core.List.{List, [], ◌∷◌, ◌++◌, append_assoc}
use Prim.Native.Nat.{ℕ, suc, ◌+◌, ◌-◌, ◌≤◌, ◌<◌}
use native.Mathlib.Nat.{add-zero}
use native.Mathlib.Numerals.{add-one}
use native.Mathlib.Omega.{arith}
use Rattle.std.proofs.lemmas.List.{get_or-set_same, get_or-set_other}
use Rattle.std.proofs.Common.{below_more, Option, Some, None, Bor, inl, inr, unwrap_or}
use lib.ListN.{length, get_or, take, drop, set, length-drop, drop_of_length-le}
use lib.Seq.{sets, sets-eq, take_all, take-suc, length-take-le}
use Rattle.std.specs.Slice.{IsGetRangeResult}
use Rattle.std.specs.List.{slice_range}
use borrow.Rule.Slice.PartMut.{post_of, Post-is}
use borrow.Author.Tests.{le-leb, lt-leb, ltb-true, ltb-false}
use lib.Dec.{ltb}
use mathlib.Core.Bool.{Bool, true, false}
use Rattle.wire.specs.Parts.{part, part_of}

pub nil_of : (s : List ℕ) → length s ≡ 0 → s ≡ []
nil_of [] e = refl
nil_of (a ∷ s) e = absurd (omega arith)

-- ---- a part of a slice
pub part_in : (s : List ℕ) (start len : ℕ) → start + len ≤ length s → part_of s (part start len) ≡ take len (drop start s)
unfolding part_of
part_in s start len h = simp (le-leb _ _ h)

pub part_out : (s : List ℕ) (start len : ℕ) → length s < start + len → part_of s (part start len) ≡ []
unfolding part_of
part_out s start len h = simp (lt-leb _ _ h)

-- what lies from a place on, or none
pub rest_or : (s : List ℕ) (at : ℕ) (r : Option (Bor (List ℕ))) (d : Bor (List ℕ)) → d.now ≡ [] → IsGetRangeResult s at (length s) r
    → (unwrap_or r d).now ≡ drop at s
rest_or s at (Some x) d e h = h.0.2 ∙ take_all (length s - at) (drop at s) (omega (arith, length-drop at s))
rest_or s at None d e h = e ∙ sym (drop_of_length-le s (elim h.0 [ inl a ↦ omega arith | inr a ↦ omega arith ]))

-- of what lies from a place on, so much as a part has
pub part_or : (s : List ℕ) (start len : ℕ) (r : Option (Bor (List ℕ))) (d : Bor (List ℕ)) → d.now ≡ [] → IsGetRangeResult (drop start s) 0 len r
    → (unwrap_or r d).now ≡ part_of s (part start len)
part_or s start len r d e h = go (ltb (length s) (start + len)) refl r h
  where
    go : (b : Bool) → ltb (length s) (start + len) ≡ b → (r : Option (Bor (List ℕ))) → IsGetRangeResult (drop start s) 0 len r
        → (unwrap_or r d).now ≡ part_of s (part start len)
    go true q (Some x) h =
        nil_of x.now (omega (arith, h.0.1, h.0.3, ltb-true _ _ q, length-drop start s)) ∙ sym (part_out s start len (ltb-true _ _ q))
    go false q (Some x) h =
        let z : slice_range (drop start s) 0 len ≡ take len (drop start s) = grind arith in
        h.0.2 ∙ z ∙ sym (part_in s start len (ltb-false _ _ q))
    go true q None h = e ∙ sym (part_out s start len (ltb-true _ _ q))
    go false q None h =
        e ∙ absurd (elim h.0 [ inl a ↦ omega arith | inr a ↦ omega (arith, ltb-false _ _ q, length-drop start s) ])

-- ---- a run of stores
-- then another where it ends: one run
pub sets_then : (vs ws l : List ℕ) (i j : ℕ) → j ≡ i + length vs → sets (sets l i vs) j ws ≡ sets l i (vs ++ ws)
sets_then [] ws l i j e = rw (e, add-zero i)
sets_then (a ∷ vs) ws l i j e = sets_then vs ws (set l i a) (suc i) j (omega arith)

-- a turn of a loop that copies
pub copy_more : (s l : List ℕ) (i k : ℕ) → k < length s → set (sets l i (take k s)) (i + k) (get_or s k 0) ≡ sets l i (take (k + 1) s)
copy_more s l i k h =
    sets_then (take k s) (get_or s k 0 ∷ []) l i (i + k) (omega (arith, length-take-le k s (omega arith)))
    ∙ rw (add-one k, take-suc s k 0 h)

-- what is put at a place, with what stood before and behind it, is a run of stores
pub put_sets : (at : ℕ) (s l : List ℕ) → at + length s ≤ length l → take at l ++ (s ++ post_of at (at + length s - at) l) ≡ sets l at s
put_sets at s l h =
    sym (sets-eq s l at h ∙ append_assoc (take at l) s (drop (at + length s) l)
    ∙ ap (λ (r : List ℕ). take at l ++ (s ++ r)) (sym (Post-is at (at + length s) l (omega arith))))

-- a turn of a loop that writes each place
pub kept_more : (xs r : List ℕ) (k v : ℕ) → k < length xs → ((j : ℕ) → j < k → get_or xs j 0 ≡ get_or r j 0) → v ≡ get_or r k 0
    → (j : ℕ) → j < k + 1 → get_or (set xs k v) j 0 ≡ get_or r j 0
kept_more xs r k v h f e = below_more _ _ (λ j l. get_or-set_other xs k j v 0 (omega arith) ∙ f j l) (get_or-set_same xs k v 0 h ∙ e)
