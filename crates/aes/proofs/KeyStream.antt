-- Counter mode keeps the length and undoes itself, for every key, nonce and list; and the turn of the loop that applies it. Assumes nothing.
use mathlib.Core.Path.{◌≡◌, refl, sym, ap, ap₂, ◌∙◌}
use mathlib.Core.List.{List, [], ◌∷◌, ◌++◌, zip_with}
use Prim.Native.Nat.{ℕ, zero, suc, ◌+◌, ◌-◌, ◌*◌, ◌≤◌, ◌<◌, min}
use native.Mathlib.Nat.{not-suc-le-zero, le_of_suc-le-suc}
use native.Mathlib.Numerals.{add-one}
use native.Mathlib.Omega.{arith}
use lib.ListN.{length, get_or, take, drop, set, length-set, length-append, length-drop}
use lib.Seq.{sets, set_out, take-nil, get_or-drop}
use borrow.Author.Tests.{le-ltb}
use Rattle.wire.specs.Writing.{Stores, no_room}
use Rattle.std.specs.Prelude.{Result, Ok}
use Rattle.wire.specs.declared.refusals.Refusal.{Refusal}
use Rattle.wire.proofs.Xor.{xor_twice}
use Rattle.wire.proofs.Lists.{sets_then, copy_more}
use Rattle.aes.specs.Field.{◌⊕◌}
use Rattle.aes.specs.Cipher.{from, cipher}
use Rattle.aes.specs.Ctr.{xors, high_first, counter_block, keystream, blocks_for, ctr_of}
use Rattle.aes.proofs.Filled.{places}
use Rattle.aes.proofs.Cipher.{length_cipher}

-- ---- bytes summed one by one
pub length_xors : (s t : List ℕ) → length (xors s t) ≡ min (length s) (length t)
unfolding zip_with
length_xors [] t = omega arith
length_xors (a ∷ s) [] = omega arith
length_xors (a ∷ s) (b ∷ t) = omega (arith, length_xors s t)

pub xors_twice : (s t : List ℕ) → length s ≤ length t → xors (xors s t) t ≡ s
unfolding zip_with
xors_twice [] t h = refl
xors_twice (a ∷ s) [] h = absurd (not-suc-le-zero h)
xors_twice (a ∷ s) (b ∷ t) h = ap₂ (λ (x : ℕ) (l : List ℕ). x ∷ l) (xor_twice a b) (xors_twice s t (le_of_suc-le-suc h))

get_or_xors : (s t : List ℕ) (i : ℕ) → i < length s → i < length t → get_or (xors s t) i 0 ≡ get_or s i 0 ⊕ get_or t i 0
unfolding zip_with
get_or_xors [] t i h k = absurd (not-suc-le-zero h)
get_or_xors (a ∷ s) [] i h k = absurd (not-suc-le-zero k)
get_or_xors (a ∷ s) (b ∷ t) zero h k = refl
get_or_xors (a ∷ s) (b ∷ t) (suc i) h k = get_or_xors s t i (le_of_suc-le-suc h) (le_of_suc-le-suc k)

-- a key stream that goes on
xors_append : (s t u : List ℕ) → length t ≤ length s → xors s (t ++ u) ≡ xors s t ++ xors (drop (length t) s) u
unfolding zip_with
xors_append [] [] u h = refl
xors_append (a ∷ s) [] u h = refl
xors_append [] (b ∷ t) u h = absurd (not-suc-le-zero h)
xors_append (a ∷ s) (b ∷ t) u h = ap (λ (l : List ℕ). (a ⊕ b) ∷ l) (xors_append s t u (le_of_suc-le-suc h))

-- ---- the counter block
pub counter_is : (pn sn : List ℕ) (i : ℕ) → length pn ≡ 3 → length sn ≡ 5
    → counter_block pn sn i ≡ get_or pn 0 0 ∷ get_or pn 1 0 ∷ get_or pn 2 0 ∷ get_or sn 0 0 ∷ get_or sn 1 0 ∷ get_or sn 2 0 ∷ get_or sn 3 0 ∷ get_or sn 4 0 ∷ high_first 8 i
unfolding counter_block from
counter_is pn sn i hp hs =
    ap₂ (λ (p s : List ℕ). p ++ (s ++ high_first 8 i)) (places 3 pn hp) (places 5 sn hs)

-- ---- the key stream
module _ (key pn sn : List ℕ) where
  pub length_keystream : (n : ℕ) → length (keystream key pn sn n) ≡ 16 * n
  unfolding keystream
  length_keystream zero = refl
  length_keystream (suc n) =
      length-append (keystream key pn sn n) (cipher key (counter_block pn sn n))
      ∙ omega (arith, length_keystream n, length_cipher key (counter_block pn sn n))

  -- as many blocks as the bytes need
  enough : (s : List ℕ) → length s ≤ length (keystream key pn sn (blocks_for (length s)))
  enough s = omega (arith, length_keystream (blocks_for (length s)))

  pub length_ctr : (s : List ℕ) → length (ctr_of key pn sn s) ≡ length s
  unfolding ctr_of
  length_ctr s = omega (arith, length_xors s (keystream key pn sn (blocks_for (length s))), enough s)

  -- what opens is what sealed
  pub ctr_twice : (s : List ℕ) → ctr_of key pn sn (ctr_of key pn sn s) ≡ s
  unfolding ctr_of
  ctr_twice s = rw (length_ctr s) (xors_twice s (keystream key pn sn (blocks_for (length s))) (enough s))

  -- what `apply_ctr` answers and leaves where there is room
  pub ctr_stored : (s room : List ℕ) {answer : Result ℕ Refusal} {after : List ℕ} → length s ≤ length room
      → Stores (no_room 0 (ctr_of key pn sn s) room ∷ []) 0 (ctr_of key pn sn s) room answer after
      → (answer ≡ Ok (length s)) × (after ≡ ctr_of key pn sn s ++ drop (length s) room)
  ctr_stored s room h w =
      let e : 0 + length (ctr_of key pn sn s) ≡ length s = omega (arith, length_ctr s) in
      (w.answers ∙ rw (e, le-ltb _ _ h, length_ctr s), w.leaves ∙ rw (e, le-ltb _ _ h))

  -- ---- the loop over the blocks
  pub ctr_start : (s room : List ℕ) → room ≡ sets room 0 (xors s (keystream key pn sn 0))
  unfolding keystream zip_with
  ctr_start [] room = refl
  ctr_start (a ∷ s) room = refl

  pub ctr_end : (s room : List ℕ) (i : ℕ) → i ≡ blocks_for (length s) → sets room 0 (xors s (keystream key pn sn i)) ≡ sets room 0 (ctr_of key pn sn s)
  unfolding ctr_of
  ctr_end s room i e = rw e

  -- a turn: the block of counter i, summed to the bytes from 16 i on
  pub ctr_turn : (s room : List ℕ) (i : ℕ) → 16 * i < length s
      → sets (sets room 0 (xors s (keystream key pn sn i))) (16 * i) (xors (drop (16 * i) s) (cipher key (counter_block pn sn i)))
      ≡ sets room 0 (xors s (keystream key pn sn (i + 1)))
  unfolding keystream
  ctr_turn s room i h =
      let t : List ℕ = keystream key pn sn i in
      let l : length t ≡ 16 * i = length_keystream i in
      sets_then (xors s t) (xors (drop (16 * i) s) (cipher key (counter_block pn sn i))) room 0 (16 * i) (omega (arith, length_xors s t))
      ∙ rw (add-one i, xors_append s t (cipher key (counter_block pn sn i)) (omega arith), l)

-- ---- the loop within a block
-- a turn
pub xor_turn : (s t room : List ℕ) (at j : ℕ) → at + j < length s → j < length t
    → set (sets room at (take j (xors (drop at s) t))) (at + j) (get_or s (at + j) 0 ⊕ get_or t j 0) ≡ sets room at (take (j + 1) (xors (drop at s) t))
xor_turn s t room at j hs ht =
    let x : List ℕ = drop at s in
    let hx : j < length x = omega (arith, length-drop at s) in
    rw (← get_or-drop at s j 0, ← get_or_xors x t j hx ht) (copy_more (xors x t) room at j (omega (arith, length_xors x t)))

-- what is stored past the end of the room is lost
sets_past : (s room : List ℕ) (at : ℕ) → length room ≤ at → room ≡ sets room at s
sets_past [] room at h = refl
sets_past (b ∷ s) room at h = sets_past s room (suc at) (omega arith) ∙ ap (λ (l : List ℕ). sets l (suc at) s) (sym (set_out room at b h))

-- all that is summed, or all that there is room for
pub sets_cut : (s room : List ℕ) (at k : ℕ) → min (length s) (length room - at) ≤ k → sets room at (take k s) ≡ sets room at s
sets_cut [] room at k h = rw (take-nil {A = ℕ} k)
sets_cut (b ∷ s) room at zero h = sets_past (b ∷ s) room at (omega arith)
sets_cut (b ∷ s) room at (suc k) h =
    sets_cut s (set room at b) (suc at) k (omega (arith, length-set room at b))
