-- Parts put one behind the other, and how the cutter ends. Assumes nothing.
use mathlib.Core.Path.{◌≡◌, refl, sym, ap, ◌∙◌}
use mathlib.Core.Bool.{true, ◌||◌}
use mathlib.Core.List.{List, [], ◌∷◌, flatten, append-nil}
use Prim.Native.Nat.{ℕ, suc, ◌+◌, ◌-◌, ◌*◌, ◌≤◌, ◌<◌}
use native.Mathlib.Nat.{suc-mul}
use native.Mathlib.Numerals.{add-one}
use native.Mathlib.Omega.{arith}
use lib.ListN.{length, take, drop, set, length-set, length-drop}
use lib.Seq.{sets, drop-drop, length-take-le, take_all}
use lib.Dec.{eqb, ltb}
use borrow.Author.Tests.{le-ltb, lt-ltb, eq-eqb, ne_eqb}
use Rattle.wire.specs.Writing.{Stores, no_room}
use Rattle.std.specs.Prelude.{Result, Ok}
use Rattle.wire.specs.declared.refusals.Refusal.{Refusal}
use Rattle.wire.specs.Refusals.{refusing}
use Rattle.wire.proofs.Lists.{sets_then}
use Rattle.wire.proofs.Writing.{stores_sets, stores_refused, stores_past, stores_short, stores_made}
use Rattle.multipart.specs.Cutting.{parts_from, cut_after, pieces_before, pieces, cut_image, cutter_rules}
use Rattle.multipart.proofs.Cutting.{remaining, first_of, pieces_length, image_length}

-- one part: its counter is stored, and its bytes behind
pub part_stored : (counter : ℕ) (bytes o : List ℕ) (at : ℕ) {answer : Result ℕ Refusal} {o' : List ℕ} → at + suc (length bytes) ≤ length o
    → Stores (no_room (at + 1) bytes (set o at counter) ∷ []) (at + 1) bytes (set o at counter) answer o' → o' ≡ sets o at (counter ∷ bytes)
part_stored counter bytes o at h w =
    let l : at + 1 + length bytes ≤ length (set o at counter) = omega (arith, length-set o at counter) in
    stores_sets (at + 1) bytes (set o at counter) l w ∙ ap (λ (i : ℕ). sets (set o at counter) i bytes) (add-one at)

-- ---- the loop that puts them
-- one full part less
module _ (size : ℕ) {k full : ℕ} (h : k < full) where
  less : full - k ≡ suc (full - (k + 1))
  less = omega arith

  pub bytes_less : (full - k) * size ≡ (full - (k + 1)) * size + size
  bytes_less = rw less (suc-mul (full - (k + 1)) size)

  -- a turn of the loop
  pub part_put : (from : ℕ) (m o o' t : List ℕ) → from + (full - k) * size ≤ length m → o' ≡ sets o (from + k) (k ∷ take (from + size - from) (drop from m))
      → sets o (from + k) (remaining size k (full - k) (drop from m)) ≡ t
      → sets o' (from + size + (k + 1)) (remaining size (k + 1) (full - (k + 1)) (drop (from + size) m)) ≡ t
  part_put from m o o' t l eo q =
      let d : List ℕ = drop from m in
      let n : ℕ = full - (k + 1) in
      let s : from + size - from ≡ size = omega arith in
      let f : length (take size d) ≡ size = length-take-le size d (omega (arith, bytes_less, length-drop from m)) in
      rw (eo, s, ← drop-drop size from m)
      (sets_then (k ∷ take size d) (remaining size (k + 1) n (drop size d)) o (from + k) (from + size + (k + 1)) (omega arith)
      ∙ ap (sets o (from + k)) (sym (ap (λ (i : ℕ). remaining size k i d) less ∙ first_of size k n d))
      ∙ q)

-- the loop's end: the last part
pub last_put : (size full from : ℕ) {k : ℕ} (m o o' t : List ℕ) → k ≡ full → o' ≡ sets o (from + full) (255 ∷ take (length m - from) (drop from m))
    → sets o (from + k) (remaining size k (full - k) (drop from m)) ≡ t → o' ≡ t
unfolding parts_from cut_after flatten
last_put size full from {k} m o o' t e eo q =
    let d : List ℕ = drop from m in
    let n : full - k ≡ 0 = omega arith in
    eo
    ∙ rw (take_all (length m - from) d (omega (arith, length-drop from m)), ← e)
    (ap (sets o (from + k)) (sym (ap (λ (i : ℕ). remaining size k i d) n ∙ append-nil (255 ∷ d))) ∙ q)

-- ---- how the cutter ends
module _ (size : ℕ) (m room : List ℕ) where
  abbrev Ends : Result ℕ Refusal → List ℕ → Type 0
  Ends answer after = Stores (cutter_rules size m room) 0 (cut_image size m) room answer after

  -- the message is too long
  pub cut_long : 500 < length m → Ends (refusing 27) room
  cut_long h = stores_refused 0 (cut_image size m) room (cutter_rules size m room) 26 refl (rw (lt-ltb _ _ h))

  module _ (h : length m ≤ 500) where
    bad : eqb size 0 || ltb 256 (length (pieces size m)) ≡ true → Ends (refusing 17) room
    bad e = stores_refused 0 (cut_image size m) room (cutter_rules size m room) 16 refl (rw (le-ltb _ _ h, e))

    -- no bytes per part
    pub cut_no_size : size ≡ 0 → Ends (refusing 17) room
    cut_no_size e = bad (rw (eq-eqb size 0 e))

    module _ (full : ℕ) (some : size ≡ 0 → ⊥) (e : full ≡ pieces_before size (length m)) where
      many : length (pieces size m) ≡ suc full
      many = pieces_length size m ∙ ap suc (sym e)

      -- too many parts
      pub cut_many : 255 < full → Ends (refusing 17) room
      cut_many k = bad (rw (ne_eqb size 0 some) (lt-ltb 256 (length (pieces size m)) (omega (arith, many))))

      module _ (few : full ≤ 255) where
        good : {answer : Result ℕ Refusal} {after : List ℕ} → Stores (no_room 0 (cut_image size m) room ∷ []) 0 (cut_image size m) room answer after → Ends answer after
        good w =
            stores_past 0 (cut_image size m) room 27 _ (le-ltb _ _ h)
            (stores_past 0 (cut_image size m) room 17 _ (rw (ne_eqb size 0 some) (le-ltb 256 (length (pieces size m)) (omega (arith, many)))) w)

        -- no room
        pub cut_short : length room < length m + full + 1 → Ends (refusing 25) room
        cut_short k = good (stores_short 0 (cut_image size m) room (omega (arith, image_length size m, many)))

        -- the parts are put
        pub cut_made : {after : List ℕ} → length m + full + 1 ≤ length room → after ≡ sets room 0 (remaining size 0 full m)
            → Ends (Ok (length m + full + 1)) after
        unfolding cut_image
        cut_made k s =
            good
            (stores_made 0 (cut_image size m) room (omega (arith, image_length size m, many))
            (s ∙ ap (λ (i : ℕ). sets room 0 (remaining size 0 i m)) e)
            (omega (arith, image_length size m, many)))
