-- The cutter's laws: its pieces are the message, cut by the rules; each but the last is full; no cutting into pieces of that size has fewer. Assumes nothing.
use mathlib.Core.Path.{◌≡◌, refl, sym, ap, ◌∙◌}
use mathlib.Core.List.{List, [], ◌∷◌, ◌++◌, flatten, append-nil}
use Prim.Native.Nat.{ℕ, zero, suc, ◌+◌, ◌-◌, ◌*◌, ◌≤◌, ◌<◌}
use native.Mathlib.Nat.{zero-mul, suc-mul, mul-le-mul_right, div-mul-le_self, lt-div-mul-add, div-lt_iff_lt-mul}
use native.Mathlib.Omega.{arith}
use lib.ListN.{length, get_or, take, drop, length-append, length-drop, take-append-drop}
use lib.Seq.{drop-drop, length-take-le, take_at, drop_at}
use lib.Dec.{eqb, ltb}
use borrow.Author.Tests.{ltb-false}
use Rattle.wire.specs.Rules.{first_broken}
use Rattle.wire.specs.Writing.{Stores}
use Rattle.std.specs.Prelude.{Result, Ok}
use Rattle.wire.specs.declared.refusals.Refusal.{Refusal}
use Rattle.wire.proofs.Choice.{or_fails}
use Rattle.wire.proofs.Held.{held}
use Rattle.wire.proofs.Lists.{nil_of}
use Rattle.wire.proofs.Writers.{wrote}
use Rattle.multipart.specs.Cutting.{parts_from, parts, Cuts, cut_after, pieces_before, pieces, cut_image, cutter_rules, Filled, Fewest}

-- ---- lengths
-- the parts: a counter byte for each piece
pub parts_length : (k : ℕ) (ds : List (List ℕ)) → length (flatten (parts_from k ds)) ≡ length (flatten ds) + length ds
unfolding parts_from flatten
parts_length k [] = refl
parts_length k (d ∷ []) = omega (arith, length-append d [])
parts_length k (d ∷ e ∷ ds) =
    omega (arith, parts_length (k + 1) (e ∷ ds), length-append d (flatten (parts_from (k + 1) (e ∷ ds))), length-append d (flatten (e ∷ ds)))

module _ (size : ℕ) where
  -- so many full pieces, and the last
  pub cut_after_length : (n : ℕ) (m : List ℕ) → length (cut_after n size m) ≡ suc n
  unfolding cut_after
  cut_after_length zero m = refl
  cut_after_length (suc n) m = ap suc (cut_after_length n (drop size m))

  -- ---- the pieces are the message
  pub cut_after_joined : (n : ℕ) (m : List ℕ) → flatten (cut_after n size m) ≡ m
  unfolding cut_after flatten
  cut_after_joined zero m = append-nil m
  cut_after_joined (suc n) m = ap (λ (l : List ℕ). take size m ++ l) (cut_after_joined n (drop size m)) ∙ take-append-drop size m

  -- ---- the parts one behind the other
  -- their bytes from a counter on: so many full ones and the last
  abbrev pub remaining : ℕ → ℕ → List ℕ → List ℕ
  remaining k n m = flatten (parts_from k (cut_after n size m))

  parts_first : (k n : ℕ) (m : List ℕ) → parts_from k (cut_after (suc n) size m) ≡ (k ∷ take size m) ∷ parts_from (k + 1) (cut_after n size (drop size m))
  unfolding parts_from cut_after
  parts_first k zero m = refl
  parts_first k (suc n) m = refl

  pub first_of : (k n : ℕ) (m : List ℕ) → remaining k (suc n) m ≡ (k ∷ take size m) ++ remaining (k + 1) n (drop size m)
  unfolding flatten
  first_of k n m = ap flatten (parts_first k n m)

  -- taken apart after every size + 1 bytes they are the parts
  apart : (n k : ℕ) (m : List ℕ) → n * size ≤ length m → cut_after n (size + 1) (remaining k n m) ≡ parts_from k (cut_after n size m)
  unfolding cut_after parts_from flatten
  apart zero k m h = ap (λ (l : List ℕ). l ∷ []) (append-nil (255 ∷ m))
  apart (suc n) k m h =
      let rest : List ℕ = remaining (k + 1) n (drop size m) in
      let l : length (k ∷ take size m) ≡ size + 1 = omega (arith, suc-mul n size, length-take-le size m (omega (arith, suc-mul n size))) in
      ap (cut_after (suc n) (size + 1)) (first_of k n m)
      ∙ rw (take_at (k ∷ take size m) rest (size + 1) l, drop_at (k ∷ take size m) rest (size + 1) l)
      (ap (λ (ps : List (List ℕ)). (k ∷ take size m) ∷ ps) (apart n (k + 1) (drop size m) (omega (arith, suc-mul n size, length-drop size m))) ∙ sym (parts_first k n m))

  -- ---- each piece
  -- a full one: the next `size` bytes from its place on
  pub piece_at : (n k : ℕ) (m : List ℕ) → k < n → get_or (cut_after n size m) k [] ≡ take size (drop (k * size) m)
  unfolding cut_after
  piece_at zero k m h = absurd (omega arith)
  piece_at (suc n) zero m h = rw (zero-mul size)
  piece_at (suc n) (suc k) m h =
      let e : size + k * size ≡ suc k * size = omega (arith, suc-mul k size) in
      piece_at n k (drop size m) (omega arith) ∙ rw (drop-drop (k * size) size m, e)

  -- the last: all that is left
  pub piece_last : (n : ℕ) (m : List ℕ) → get_or (cut_after n size m) n [] ≡ drop (n * size) m
  unfolding cut_after
  piece_last zero m = rw (zero-mul size)
  piece_last (suc n) m =
      let e : size + n * size ≡ suc n * size = omega (arith, suc-mul n size) in
      piece_last n (drop size m) ∙ rw (drop-drop (n * size) size m, e)

  module _ (m : List ℕ) where
    pub pieces_length : length (pieces size m) ≡ suc (pieces_before size (length m))
    pieces_length = cut_after_length (pieces_before size (length m)) m

    pub pieces_joined : flatten (pieces size m) ≡ m
    pieces_joined = cut_after_joined (pieces_before size (length m)) m

    -- a message's bytes, and a counter byte for each piece
    pub image_length : length (cut_image size m) ≡ length m + length (pieces size m)
    unfolding cut_image
    image_length = parts_length 0 (pieces size m) ∙ ap (λ (l : List ℕ). length l + length (pieces size m)) pieces_joined

    pub image_apart : cut_after (pieces_before size (length m)) (size + 1) (cut_image size m) ≡ parts (pieces size m)
    unfolding cut_image
    image_apart = apart (pieces_before size (length m)) 0 m (omega (arith, div-mul-le_self (length m - 1) size))

    -- ---- cut by the rules
    -- within the limits the pieces are a cutting
    pub pieces_cut : length m ≤ 500 → length (pieces size m) ≤ 256 → Cuts m (pieces size m)
    pieces_cut f n = record { joined = pieces_joined; some = omega (arith, pieces_length); most = n; fits = f }

    -- so where no rule of the cutter is broken
    pub rules_cut : (room : List ℕ) → first_broken (cutter_rules size m room) ≡ 0 → Cuts m (pieces size m)
    rules_cut room e =
        let h = held (cutter_rules size m room) (tt, (tt, (tt, tt))) e in
        pieces_cut (ltb-false _ _ h.0) (ltb-false _ _ (or_fails (eqb size 0) (ltb 256 (length (pieces size m))) h.1.0).1)

    -- a call of `cut` whose rules all hold has written the parts of the message, cut by the rules, at the front of the room
    pub cutter_cuts : (room after : List ℕ) (answer : Result ℕ Refusal) → first_broken (cutter_rules size m room) ≡ 0
        → Stores (cutter_rules size m room) 0 (cut_image size m) room answer after
        → (answer ≡ Ok (length (cut_image size m))) × (take (length (cut_image size m)) after ≡ flatten (parts (pieces size m))) × Cuts m (pieces size m)
    unfolding cut_image
    cutter_cuts room after answer e w =
        let d = wrote (cutter_rules size m room) (cut_image size m) room after answer e w in
        (d.0, d.1, rules_cut room e)

    -- ---- full, and as few as can be
    last_length_lem : length (get_or (pieces size m) (length (pieces size m) - 1) []) ≡ length m - pieces_before size (length m) * size
    last_length_lem =
        let e : length (pieces size m) - 1 ≡ pieces_before size (length m) = omega (arith, pieces_length) in
        rw (e, piece_last (pieces_before size (length m)) m) (length-drop (pieces_before size (length m) * size) m)

    module _ (some : 0 < size) where
      -- every piece but the last has `size` bytes, the last has at most `size`, and none only where the message has none
      pub full_but_last : Filled size m (pieces size m)
      full_but_last =
          let n : ℕ = pieces_before size (length m) in
          let low : n * size ≤ length m - 1 = div-mul-le_self (length m - 1) size in
          let high : length m - 1 < n * size + size = lt-div-mul-add some in
          record {
            full = λ k h.
                let c : suc k * size ≤ n * size = mul-le-mul_right size (omega (arith, pieces_length)) in
                rw (piece_at n k m (omega (arith, pieces_length)))
                (length-take-le size (drop (k * size) m) (omega (arith, suc-mul k size, length-drop (k * size) m)));
            last = omega (arith, last_length_lem);
            empty = λ e. nil_of m (omega (arith, last_length_lem));
          }

      -- pieces of at most `size` bytes hold no more than that together
      held_in : (ds : List (List ℕ)) → ((k : ℕ) → k < length ds → length (get_or ds k []) ≤ size) → length (flatten ds) ≤ length ds * size
      unfolding flatten
      held_in [] h = omega arith
      held_in (d ∷ ds) h =
          omega (arith, length-append d (flatten ds), h 0 (omega arith), held_in ds (λ k i. h (suc k) (omega arith)), suc-mul (length ds) size)

      pub fewest : Fewest size m (pieces size m)
      fewest ds e one h =
          let c : 1 * size ≤ length ds * size = mul-le-mul_right size one in
          let b : length m - 1 < length ds * size = omega (arith, ap length e, held_in ds h) in
          omega (arith, pieces_length, (div-lt_iff_lt-mul {k = size} {x = length m - 1} {y = length ds} some).1 b)
