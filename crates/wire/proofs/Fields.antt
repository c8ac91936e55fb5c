-- Reading undoes writing, once over a list of fields. Assumes nothing.
use mathlib.Core.Path.{◌≡◌, refl, ap, ◌∙◌}
use Prim.Native.Nat.{ℕ, zero, suc, ◌+◌, ◌-◌, ◌^◌, ◌≤◌, ◌<◌}
use mathlib.Core.Bool.{true, false, not, ◌||◌}
use mathlib.Core.List.{List, [], ◌∷◌, ◌++◌, append_assoc}
use native.Mathlib.Omega.{arith}
use lib.ListN.{length, get_or, take, drop, length-append, length-drop}
use lib.Seq.{drop_at, drop-cons, take_all, length-take-le}
use lib.Dec.{ltb}
use borrow.Author.Tests.{ltb-true, ltb-false, not-false}
use Rattle.wire.specs.Numbers.{num, le}
use Rattle.wire.specs.Fields.{Field, Layout, width, widths, wrong_size, second_above, values_at, wrong_fields, encode, unfit, past, any_past, same_lengths, parts_of, body_of, unreadable}
use Rattle.wire.specs.Parts.{part, part_of}
use Rattle.wire.specs.declared.Part.{Part}
use Rattle.wire.proofs.Choice.{or_true, or_right, or_fails, true_false}
use Rattle.wire.proofs.Lists.{part_in}
use Rattle.wire.proofs.Numbers.{num_le, length_le}

-- the numbers fit: each its own field
fits : (f : Field) (fs : List Field) (v : ℕ) (vs : List ℕ) → unfit (f ∷ fs) (v ∷ vs) ≡ false → (v < 256 ^ width f) × (unfit fs vs ≡ false)
fits f fs v vs e =
    let o = or_fails (not (ltb v (256 ^ width f))) (unfit fs vs) e in
    (ltb-true _ _ (not-false _ o.0), o.1)

-- a number that does not fit, behind others
pub unfit_drop : (k : ℕ) (fs : List Field) (vs : List ℕ) → unfit (drop k fs) (drop k vs) ≡ true → unfit fs vs ≡ true
unfit_drop zero fs vs e = e
unfit_drop (suc k) [] [] e = e
unfit_drop (suc k) [] (v ∷ vs) e = refl
unfit_drop (suc k) (f ∷ fs) [] e = refl
unfit_drop (suc k) (f ∷ fs) (v ∷ vs) e = or_right (not (ltb v (256 ^ width f))) (unfit fs vs) (unfit_drop k fs vs e)

pub encode_length : (fs : List Field) (vs : List ℕ) → unfit fs vs ≡ false → length (encode fs vs) ≡ widths fs
encode_length [] [] e = refl
encode_length [] (v ∷ vs) e = true_false e
encode_length (f ∷ fs) [] e = true_false e
encode_length (f ∷ fs) (v ∷ vs) e =
    omega (arith, length-append (le (width f) v) (encode fs vs), length_le (width f) v, encode_length fs vs (fits f fs v vs e).1)

-- moving a field across the seam
across : (a x y r : List ℕ) → a ++ ((x ++ y) ++ r) ≡ (a ++ x) ++ (y ++ r)
across a x y r = simp append_assoc

-- fields that were written, wherever they stand, are read as their numbers
pub values_back : (fs : List Field) (vs a r : List ℕ) (at : ℕ) → length a ≡ at → unfit fs vs ≡ false → values_at fs at (a ++ (encode fs vs ++ r)) ≡ vs
values_back [] [] a r at e h = refl
values_back [] (v ∷ vs) a r at e h = true_false h
values_back (f ∷ fs) [] a r at e h = true_false h
values_back (f ∷ fs) (v ∷ vs) a r at e h =
    let w = width f in
    let k = fits f fs v vs h in
    let q = a ++ ((le w v ++ encode fs vs) ++ r) in
    let e1 : num w at q ≡ v = rw (append_assoc (le w v) (encode fs vs) r) (num_le w v a (encode fs vs ++ r) at e k.0) in
    let l : length (a ++ le w v) ≡ at + w = omega (arith, length-append a (le w v), length_le w v) in
    let e2 : values_at fs (at + w) q ≡ vs = rw (across a (le w v) (encode fs vs) r) (values_back fs vs (a ++ le w v) r (at + w) l k.1) in
    rw (e1, e2)

-- what a writer made, where its reader would not refuse it
pub record Readable (l : Layout) (vs : List ℕ) (ps cut : List Part) (s : List ℕ) : Type 0 where
  pub within : any_past s ps ≡ false
  pub fit : unfit l.fields vs ≡ false
  pub sized : wrong_size l.size (body_of l vs ps s) ≡ false
  pub right : wrong_fields l (body_of l vs ps s) ≡ false
  pub alike : same_lengths ps cut ≡ true
  -- the numbers are read back, and so are the bytes behind them
  pub values : values_at l.fields 0 (body_of l vs ps s) ≡ vs
  pub behind : drop (widths l.fields) (body_of l vs ps s) ≡ parts_of s ps

pub readable : (l : Layout) (vs : List ℕ) (ps cut : List Part) (s : List ℕ) → unreadable l vs ps cut s ≡ false → Readable l vs ps cut s
readable l vs ps cut s e =
    let q = body_of l vs ps s in
    let o1 = or_fails (any_past s ps || unfit l.fields vs || wrong_size l.size q || wrong_fields l q) (not (same_lengths ps cut)) e in
    let o2 = or_fails (any_past s ps || unfit l.fields vs || wrong_size l.size q) (wrong_fields l q) o1.0 in
    let o3 = or_fails (any_past s ps || unfit l.fields vs) (wrong_size l.size q) o2.0 in
    let o4 = or_fails (any_past s ps) (unfit l.fields vs) o3.0 in
    record {
      within = o4.0;
      fit = o4.1;
      sized = o3.1;
      right = o2.1;
      alike = not-false _ o1.1;
      values = values_back l.fields vs [] (parts_of s ps) 0 refl o4.1;
      behind = drop_at (encode l.fields vs) (parts_of s ps) (widths l.fields) (encode_length l.fields vs o4.1);
    }

-- ---- how a writer's test falls out
module _ (l : Layout) (vs : List ℕ) (ps cut : List Part) (s : List ℕ) where
  pub unreadable_past : any_past s ps ≡ true → unreadable l vs ps cut s ≡ true
  unreadable_past e = rw e

  pub unreadable_unfit : unfit l.fields vs ≡ true → unreadable l vs ps cut s ≡ true
  unreadable_unfit e = rw (e, or_true (any_past s ps))

  pub unreadable_size : wrong_size l.size (body_of l vs ps s) ≡ true → unreadable l vs ps cut s ≡ true
  unreadable_size e = rw (e, or_true (any_past s ps || unfit l.fields vs))

  pub unreadable_fields : wrong_fields l (body_of l vs ps s) ≡ true → unreadable l vs ps cut s ≡ true
  unreadable_fields e = rw (e, or_true (any_past s ps || unfit l.fields vs || wrong_size l.size (body_of l vs ps s)))

  pub unreadable_cut : same_lengths ps cut ≡ false → unreadable l vs ps cut s ≡ true
  unreadable_cut e =
      rw (e, or_true (any_past s ps || unfit l.fields vs || wrong_size l.size (body_of l vs ps s) || wrong_fields l (body_of l vs ps s)))

  pub not_unreadable : any_past s ps ≡ false → unfit l.fields vs ≡ false → wrong_size l.size (body_of l vs ps s) ≡ false
      → wrong_fields l (body_of l vs ps s) ≡ false → same_lengths ps cut ≡ true → unreadable l vs ps cut s ≡ false
  not_unreadable e1 e2 e3 e4 e5 = rw (e1, e2, e3, e4, e5)

-- ---- pairs
-- one pair of a run of pairs, of which the next stands at z
pub second_step : (limit : ℕ) (s : List ℕ) (j : ℕ) {y z : ℕ} → suc j < length s → y ≡ suc j → z ≡ suc (suc j)
    → second_above limit (drop j s) ≡ ltb limit (get_or s y 0) || second_above limit (drop z s)
second_step limit s j h ey ez = rw (ey, ez) (rw (drop-cons s j 0 (omega arith)) (rw (drop-cons s (suc j) 0 h)))

pub second_end : (limit : ℕ) (s : List ℕ) → length s ≤ 1 → second_above limit s ≡ false
second_end limit [] h = refl
second_end limit (a ∷ []) h = refl
second_end limit (a ∷ (b ∷ s)) h = absurd (omega arith)

-- ---- parts
-- a slice from a place on
pub to_end : (s : List ℕ) (n : ℕ) → take (length s - n) (drop n s) ≡ drop n s
to_end s n = take_all (length s - n) (drop n s) (omega (arith, length-drop n s))

-- the part that runs from a place to the end
pub part_end : (s : List ℕ) (k : ℕ) → k ≤ length s → part_of s (part k (length s - k)) ≡ drop k s
part_end s k h = part_in s k (length s - k) (omega arith) ∙ to_end s k

pub part_length : (s : List ℕ) (p : Part) → past s p ≡ false → length (part_of s p) ≡ p.len
part_length s p e =
    let h = ltb-false (length s) (p.start + p.len) e in
    ap length (part_in s p.start p.len h)
    ∙ length-take-le p.len (drop p.start s) (omega (arith, length-drop p.start s))
