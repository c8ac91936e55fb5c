-- How a sealer makes an envelope, and how it ends. Assumes nothing.
use mathlib.Core.Path.{◌≡◌, refl, sym, ap, ◌∙◌}
use mathlib.Core.Bool.{Bool, true, false, not}
use mathlib.Core.List.{List, [], ◌∷◌, ◌++◌, append_assoc, append-nil}
use Prim.Native.Nat.{ℕ, zero, suc, ◌+◌, ◌-◌, ◌*◌, ◌≤◌, ◌<◌}
use native.Mathlib.Nat.{zero-add, not-suc-le-zero, le_of_suc-le-suc}
use native.Mathlib.Omega.{arith}
use lib.ListN.{length, get_or, take, drop, replicate, length-drop, drop_of_length-le}
use lib.Seq.{length-take-le, take_at, take_all, take-append-add, drop-append-add, drop-drop}
use lib.Dec.{ltb}
use borrow.Author.Tests.{lt-ltb, le-ltb, ltb-false}
use Rattle.wire.proofs.Choice.{or_fails}
use Rattle.wire.specs.Rules.{◌when◌}
use Rattle.wire.specs.Writing.{Stores, no_room, placed}
use Rattle.std.specs.Prelude.{Result, Ok, Option}
use Rattle.wire.specs.declared.refusals.Refusal.{Refusal}
use Rattle.wire.specs.Refusals.{refusing}
use Rattle.wire.proofs.Writing.{stores_refused}
use Rattle.aes.specs.Ctr.{blocks_for, ctr_of}
use Rattle.aes.proofs.KeyStream.{length_ctr}
use Rattle.envelope.specs.Blocks.{padding_for, padded, enveloped, outside, sealer_rules, Seals}
use Rattle.envelope.proofs.Bytes.{three}

-- a store that had room
pub stored : {at : ℕ} {bytes room : List ℕ} {answer : Result ℕ Refusal} {after : List ℕ} → Stores (no_room at bytes room ∷ []) at bytes room answer after
    → at + length bytes ≤ length room → after ≡ placed at bytes room
stored w h = w.leaves ∙ rw (le-ltb _ _ h)

-- ---- zeros
take_zeros : (k n : ℕ) → k ≤ n → take k (replicate {A = ℕ} n 0) ≡ replicate k 0
take_zeros zero n h = refl
take_zeros (suc k) zero h = absurd (not-suc-le-zero h)
take_zeros (suc k) (suc n) h = ap (λ (l : List ℕ). 0 ∷ l) (take_zeros k n (le_of_suc-le-suc h))

drop_zeros : (k n m : ℕ) → m ≡ n - k → drop k (replicate {A = ℕ} n 0) ≡ replicate m 0
drop_zeros zero n m e =
    let d : m ≡ n = omega arith in
    rw d
drop_zeros (suc k) zero m e =
    let d : m ≡ 0 = omega arith in
    rw d
drop_zeros (suc k) (suc n) m e = drop_zeros k n m (omega arith)

-- head and body laid into zeros
pub zeros_behind : (h b : List ℕ) {t u : List ℕ} (n : ℕ) → length h + length b ≤ n → t ≡ placed 0 h (replicate n 0) → u ≡ placed (length h) b t
    → u ≡ (h ++ b) ++ replicate (n - (length h + length b)) 0
zeros_behind h b {t} n k et eu =
    let z : List ℕ = replicate (n - length h) 0 in
    let e : t ≡ h ++ z = et ∙ rw (zero-add (length h)) (ap (λ (l : List ℕ). h ++ l) (drop_zeros (length h) n (n - length h) refl)) in
    eu
    ∙ rw (e, take_at h z (length h) refl, drop-append-add h z (length b), drop_zeros (length b) (n - length h) (n - (length h + length b)) (omega arith))
    (sym (append_assoc h b (replicate (n - (length h + length b)) 0)))

-- as many bytes of a text and its zeros as the blocks hold
pub padded_front : (s : List ℕ) (l room n : ℕ) → length s ≡ l → n ≡ 16 * blocks_for l → n ≤ room → take n (s ++ replicate (room - l) 0) ≡ padded s
padded_front s l room n el e h =
    let k : ℕ = padding_for s in
    let d : n ≡ length s + k = omega arith in
    rw d (take-append-add s (replicate (room - l) 0) k ∙ ap (λ (l : List ℕ). s ++ l) (take_zeros k (room - l) (omega arith)))

-- ---- the image: four bytes, and the blocks behind them
image_made : (key pn sn : List ℕ) (id : ℕ) (text room : List ℕ) {o y : List ℕ} → length pn ≡ 3 → 4 ≤ length room
    → o ≡ placed 0 (get_or pn 0 0 ∷ get_or pn 1 0 ∷ get_or pn 2 0 ∷ id ∷ []) room → length o ≡ length room
    → y ≡ placed 0 (ctr_of key pn sn text) (take (length o - 4) (drop 4 o))
    → take 4 o ++ (y ++ drop (length o - 4) (drop 4 o)) ≡ placed 0 (enveloped key pn sn id text) room
unfolding enveloped
image_made key pn sn id text room {o} {y} lp h eo lo ey =
    let c : List ℕ = ctr_of key pn sn text in
    let q : List ℕ = get_or pn 0 0 ∷ get_or pn 1 0 ∷ get_or pn 2 0 ∷ id ∷ c in
    let p : pn ≡ get_or pn 0 0 ∷ get_or pn 1 0 ∷ get_or pn 2 0 ∷ [] = sym (take_all 3 pn (omega arith)) ∙ three pn (omega arith) in
    let r : List ℕ = drop 4 room in
    let t : take 4 o ≡ get_or pn 0 0 ∷ get_or pn 1 0 ∷ get_or pn 2 0 ∷ id ∷ [] = rw eo in
    let d : drop 4 o ≡ r = rw eo in
    let t2 : take (length room - 4) r ≡ r = take_all (length room - 4) r (omega (arith, length-drop 4 room)) in
    let d2 : drop (length room - 4) r ≡ [] = drop_of_length-le r {i = length room - 4} (omega (arith, length-drop 4 room)) in
    let w : y ≡ c ++ drop (4 + length c) room = ey ∙ rw (lo, d, t2, zero-add (length c), drop-drop (length c) 4 room) in
    let z : 0 + length q ≡ 4 + length c = omega arith in
    rw (lo, t, d, d2, w, append-nil)
    (sym (ap (λ (l : List ℕ). l ++ drop (0 + length l) room) (ap (λ (l : List ℕ). l ++ (id ∷ c)) p) ∙ rw z))

pub image_stored : (key pn sn : List ℕ) (id : ℕ) (text room : List ℕ) {o y : List ℕ} {r r' : Result ℕ Refusal}
    → length pn ≡ 3 → 4 + length text ≤ length room
    → Stores (no_room 0 (get_or pn 0 0 ∷ get_or pn 1 0 ∷ get_or pn 2 0 ∷ id ∷ []) room ∷ []) 0 (get_or pn 0 0 ∷ get_or pn 1 0 ∷ get_or pn 2 0 ∷ id ∷ []) room r o
    → length o ≡ length room
    → Stores (no_room 0 (ctr_of key pn sn text) (take (length o - 4) (drop 4 o)) ∷ []) 0 (ctr_of key pn sn text) (take (length o - 4) (drop 4 o)) r' y
    → take 4 o ++ (y ++ drop (length o - 4) (drop 4 o)) ≡ placed 0 (enveloped key pn sn id text) room
image_stored key pn sn id text room {o} lp fits w lo w' =
    let l : length (take (length o - 4) (drop 4 o)) ≡ length o - 4 = length-take-le (length o - 4) (drop 4 o) (omega (arith, length-drop 4 o)) in
    image_made key pn sn id text room lp (omega arith) (stored w (omega arith)) lo (stored w' (omega (arith, length_ctr key pn sn text)))

-- ---- how a sealer ends
module _ (image room : List ℕ) (held : Bool) where
  pub no_room_lem : length room < length image → Stores (no_room 0 image room ∷ (10 when not held) ∷ []) 0 image room (refusing 25) room
  no_room_lem h = stores_refused 0 image room (no_room 0 image room ∷ (10 when not held) ∷ []) 24 refl (rw (lt-ltb (length room) (0 + length image) (omega arith)))

  pub no_key_lem : length image ≤ length room → held ≡ false → Stores (no_room 0 image room ∷ (10 when not held) ∷ []) 0 image room (refusing 10) room
  no_key_lem h e =
      stores_refused 0 image room (no_room 0 image room ∷ (10 when not held) ∷ []) 9 refl (rw (le-ltb (length room) (0 + length image) (omega arith), e))

  pub made : {n : ℕ} {after : List ℕ} → length image ≤ length room → held ≡ true → n ≡ length image → after ≡ placed 0 image room
      → Stores (no_room 0 image room ∷ (10 when not held) ∷ []) 0 image room (Ok n) after
  made h e l a =
      let k = le-ltb (length room) (0 + length image) (omega arith) in
      record { number = rw (k, e, l); answers = rw (k, e, l); leaves = rw (k, e, a) }

-- a size within the limits, and one outside
pub within : (least most n : ℕ) {b : Bool} → b ≡ outside least most n → b ≡ false → (least ≤ n) × (n ≤ most)
within least most n e k =
    let o = or_fails (ltb n least) (ltb most n) (sym e ∙ k) in
    (ltb-false n least o.0, ltb-false most n o.1)

pub wrong_size_lem : (key : Option (List ℕ)) (bad : Bool) (image room : List ℕ) → bad ≡ true → Seals key bad image room (refusing 17) room
wrong_size_lem key bad image room e = stores_refused 0 image room (sealer_rules key bad image room) 16 refl (rw e)
