-- Unsealing undoes sealing, and equal images come of equal packet nonces and messages. No byte needs a bound. Assumes nothing.
use mathlib.Core.Path.{◌≡◌, refl, sym, ap, ◌∙◌}
use mathlib.Core.Bool.{Bool, true, false, ◌||◌}
use mathlib.Core.List.{List, [], ◌∷◌, ◌++◌, append_assoc, append-nil}
use Prim.Native.Nat.{ℕ, zero, suc, ◌+◌, ◌*◌, ◌≤◌, ◌<◌}
use native.Mathlib.Omega.{arith}
use lib.ListN.{length, get_or, take, drop, replicate, length-append, length-replicate, get_or-append}
use lib.Seq.{take_at, drop_at, get_or-append-add, get_or-drop, get_or-take}
use lib.Dec.{ltb}
use borrow.Author.Tests.{le-ltb, eq-eqb}
use Rattle.wire.proofs.Held.{held}
use Rattle.wire.proofs.Same.{same_self}
use Rattle.wire.specs.Numbers.{num}
use Rattle.wire.specs.Choice.{pick}
use Rattle.wire.specs.Rules.{◌when◌, first_broken}
use Rattle.aes.specs.Ctr.{blocks_for}
use Rattle.envelope.specs.Blocks.{padding_for, padded, blocks_in, nonce_number, deciphered, wrong_length, not_least}
use Rattle.envelope.specs.Sealed.{unpadded, plain_text, sealed_image, message_size, message_misfit, late_rules, message_in}
use Rattle.envelope.specs.Characteristic.{characteristic_text, characteristic_image, packet_size, all_zero, characteristic_rules, packet_in}
use Rattle.envelope.proofs.Envelopes.{length_padded, length_enveloped, nonce_enveloped, number_enveloped, id_enveloped, deciphered_enveloped, same_enveloped, whole_padded}
use Rattle.envelope.proofs.Misfit.{least_blocks, length_within, size_fits, message_fits, packet_fits}

or_none : (b : Bool) → (b || false) ≡ b
or_none true = refl
or_none false = refl

-- ---- the encrypted wrapper payload
-- a message's bytes with any padding that fills up to the least number of blocks
module _ (m padding : List ℕ) (fills : length padding ≡ padding_for (unpadded m)) where
  pub length_with : length (unpadded m ++ padding) ≡ 16 * blocks_for (6 + length m)
  length_with = omega (arith, length-append m padding)

  pub size_with : message_size (unpadded m ++ padding) ≡ length m
  size_with = omega arith

  least_with : not_least (unpadded m ++ padding) (6 + length m) ≡ false
  unfolding not_least
  least_with = rw (eq-eqb _ _ length_with)

  misfit_with : message_misfit (unpadded m ++ padding) ≡ ltb (length m) 2
  misfit_with = rw (size_with, least_with) (or_none (ltb (length m) 2))

  -- 12 is left, by the message's length
  pub late_with : late_rules (unpadded m ++ padding) ≡ (11 when false) ∷ (12 when ltb (length m) 2) ∷ []
  unfolding late_rules
  late_with = rw misfit_with

  by_size_with : take (message_size (unpadded m ++ padding)) (drop 6 (unpadded m ++ padding)) ≡ m
  by_size_with = ap (λ (n : ℕ). take n (drop 6 (unpadded m ++ padding))) size_with ∙ take_at m padding (length m) refl

  pub message_with : message_in (unpadded m ++ padding) ≡ pick (ltb (length m) 2) [] m
  unfolding message_in
  message_with = rw misfit_with (ap (pick (ltb (length m) 2) []) by_size_with)

-- ours
module _ (m : List ℕ) where
  abbrev pub zeros : List ℕ
  zeros = replicate (padding_for (unpadded m)) 0

  pub zeros_fill : length zeros ≡ padding_for (unpadded m)
  zeros_fill = length-replicate {A = ℕ} (padding_for (unpadded m)) 0

  pub length_plain : length (plain_text m) ≡ 16 * blocks_for (6 + length m)
  unfolding plain_text
  length_plain = length_with m zeros zeros_fill

  by_size : take (message_size (plain_text m)) (drop 6 (plain_text m)) ≡ m
  unfolding plain_text
  by_size = by_size_with m zeros zeros_fill

  -- neither 11 nor 12
  pub late_plain : 2 ≤ length m → first_broken (late_rules (plain_text m)) ≡ 0
  unfolding plain_text
  late_plain h = rw (late_with m zeros zeros_fill, le-ltb (length m) 2 h)

  -- the message, with anything behind the text
  pub message_behind : (rest : List ℕ) → take (length m) (drop 6 (plain_text m ++ rest)) ≡ m
  unfolding plain_text
  message_behind rest = rw (append_assoc m) (take_at m _ (length m) refl)

  pub message_plain : 2 ≤ length m → message_in (plain_text m) ≡ m
  unfolding plain_text
  message_plain h = rw (message_with m zeros zeros_fill, le-ltb (length m) 2 h)

-- where neither 11 nor 12 is given, the blocks hold the message
pub record Holds (text : List ℕ) : Type 0 where
  pub some : 2 ≤ message_size text
  pub least : length text ≡ 16 * blocks_for (6 + message_size text)
  pub size : length (message_in text) ≡ message_size text

pub holds : (text : List ℕ) → first_broken (late_rules text) ≡ 0 → Holds text
unfolding late_rules
holds text e =
    let n : ℕ = message_size text in
    let fits = (held (late_rules text) (tt, (tt, tt)) e).1.0 in
    let s = size_fits text fits in
    record {
      some = s.0;
      least = least_blocks text (6 + n) s.1;
      size = ap length (message_fits text fits) ∙ length_within text 6 n s.1;
    }

module _ (key pn sn m : List ℕ) (three-bytes : length pn ≡ 3) where
  pub sealed_nonce : take 3 (sealed_image key pn sn m) ≡ pn
  unfolding sealed_image
  sealed_nonce = nonce_enveloped key pn sn 0 (plain_text m) three-bytes

  pub sealed_number : nonce_number (sealed_image key pn sn m) ≡ nonce_number pn
  unfolding sealed_image
  sealed_number = number_enveloped key pn sn 0 (plain_text m) three-bytes

  pub sealed_id : get_or (sealed_image key pn sn m) 3 0 ≡ 0
  unfolding sealed_image
  sealed_id = id_enveloped key pn sn 0 (plain_text m) three-bytes

  pub sealed_length : length (sealed_image key pn sn m) ≡ 4 + 16 * blocks_for (6 + length m)
  unfolding sealed_image
  sealed_length = omega (arith, length_enveloped key pn sn 0 (plain_text m) three-bytes, length_plain m)

  pub sealed_blocks : blocks_in (sealed_image key pn sn m) ≡ blocks_for (6 + length m)
  sealed_blocks = omega (arith, sealed_length)

  -- not 7
  pub sealed_whole : length m ≤ 490 → wrong_length (sealed_image key pn sn m) ≡ false
  unfolding sealed_image plain_text
  sealed_whole h = whole_padded key pn sn 0 (unpadded m) three-bytes (omega arith) (omega arith)

  pub unsealed : deciphered key sn (sealed_image key pn sn m) ≡ plain_text m
  unfolding sealed_image
  unsealed = deciphered_enveloped key pn sn 0 (plain_text m) three-bytes

-- document 01's example: 10 bytes seal to 1 block, 11 to 2
one_block : (key pn sn m : List ℕ) → length pn ≡ 3 → length m ≡ 10 → blocks_in (sealed_image key pn sn m) ≡ 1
one_block key pn sn m h l = sealed_blocks key pn sn m h ∙ ap (λ (n : ℕ). blocks_for (6 + n)) l

two_blocks : (key pn sn m : List ℕ) → length pn ≡ 3 → length m ≡ 11 → blocks_in (sealed_image key pn sn m) ≡ 2
two_blocks key pn sn m h l = sealed_blocks key pn sn m h ∙ ap (λ (n : ℕ). blocks_for (6 + n)) l

-- two images with one key and session nonce
pub same_sealed : (key sn : List ℕ) {pn pn' m m' : List ℕ} → length pn ≡ 3 → length pn' ≡ 3
    → sealed_image key pn sn m ≡ sealed_image key pn' sn m' → (pn ≡ pn') × (m ≡ m')
unfolding sealed_image
same_sealed key sn {m} {m'} h h' e =
    let s = same_enveloped key sn h h' e in
    (s.0, sym (by_size m) ∙ ap (λ (t : List ℕ). take (message_size t) (drop 6 t)) s.2 ∙ by_size m')

-- ---- the characteristic packet
zeros_zero : (n : ℕ) → all_zero (replicate n 0) ≡ true
unfolding all_zero
zeros_zero zero = refl
zeros_zero (suc n) = zeros_zero n

-- padded bytes
module _ (s : List ℕ) (n : ℕ) (l : length s ≡ n) where
  pub padding_zero : all_zero (drop n (padded s)) ≡ true
  padding_zero = rw (drop_at s (replicate (padding_for s) 0) n l) (zeros_zero (padding_for s))

  pub padded_least : not_least (padded s) n ≡ false
  unfolding not_least
  padded_least =
      let e : length (padded s) ≡ 16 * blocks_for n = length_padded s ∙ ap (λ (k : ℕ). 16 * blocks_for k) l in
      rw (eq-eqb _ _ e)

-- where 18 is not given, the packet has 5 + size bytes, as its reader asks
pub packet_sized : (text : List ℕ) → not_least text (4 + packet_size text) ≡ false → length (packet_in text) ≡ 5 + num 2 3 (packet_in text)
packet_sized text e =
    let n : ℕ = packet_size text in
    let k = length_within text 4 n e in
    let p : (i : ℕ) → i < n → get_or (take n (drop 4 text)) i 0 ≡ get_or text (4 + i) 0 = λ i h. get_or-take n (drop 4 text) i 0 h ∙ get_or-drop 4 text i 0 in
    rw (packet_fits text e) (omega (arith, k, p 3 (omega arith), p 4 (omega arith)))

module _ (v p : List ℕ) (four_bytes : length v ≡ 4) where
  length_unpadded_packet : length (v ++ p) ≡ 4 + length p
  length_unpadded_packet = omega (arith, length-append v p)

  pub length_text : length (characteristic_text v p) ≡ 16 * blocks_for (4 + length p)
  unfolding characteristic_text
  length_text = omega (arith, length_padded (v ++ p), length_unpadded_packet)

  front_text : take 4 (characteristic_text v p) ≡ v
  unfolding characteristic_text
  front_text = rw (append_assoc v p) (take_at v _ 4 four_bytes)

  -- the packet, with anything behind the text
  pub packet_behind : (rest : List ℕ) → take (length p) (drop 4 (characteristic_text v p ++ rest)) ≡ p
  unfolding characteristic_text
  packet_behind rest =
      let z : List ℕ = replicate (padding_for (v ++ p)) 0 in
      let e : ((v ++ p) ++ z) ++ rest ≡ v ++ (p ++ (z ++ rest)) = simp append_assoc in
      rw (e, drop_at v (p ++ (z ++ rest)) 4 four_bytes) (take_at p (z ++ rest) (length p) refl)

  place : (i : ℕ) → i < length p → get_or (characteristic_text v p) (4 + i) 0 ≡ get_or p i 0
  unfolding characteristic_text
  place i h =
      let z : List ℕ = replicate (padding_for (v ++ p)) 0 in
      rw (append_assoc v p z) (ap (λ (n : ℕ). get_or (v ++ (p ++ z)) (n + i) 0) (sym four_bytes) ∙ get_or-append-add v (p ++ z) i 0 ∙ get_or-append p z 0 i h)

  -- ---- a packet whose size field is right
  module _ (sized : length p ≡ 5 + num 2 3 p) where
    pub size_text : packet_size (characteristic_text v p) ≡ length p
    size_text = omega (arith, place 3 (omega arith), place 4 (omega arith))

    least_text : not_least (characteristic_text v p) (4 + length p) ≡ false
    unfolding characteristic_text
    least_text = padded_least (v ++ p) (4 + length p) length_unpadded_packet

    zero_text : all_zero (drop (4 + length p) (characteristic_text v p)) ≡ true
    unfolding characteristic_text
    zero_text = padding_zero (v ++ p) (4 + length p) length_unpadded_packet

    -- none of 11, 18 and 13
    pub late_text : first_broken (characteristic_rules v (characteristic_text v p)) ≡ 0
    unfolding characteristic_rules
    late_text = rw (front_text, same_self v, size_text, least_text, zero_text)

    pub packet_text_lem : packet_in (characteristic_text v p) ≡ p
    packet_text_lem =
        packet_fits (characteristic_text v p) (rw size_text least_text)
        ∙ ap (λ (n : ℕ). take n (drop 4 (characteristic_text v p))) size_text
        ∙ ap (λ (l : List ℕ). take (length p) (drop 4 l)) (sym (append-nil (characteristic_text v p)))
        ∙ packet_behind []

module _ (key pn sn : List ℕ) (level : ℕ) (v p : List ℕ) (three-bytes : length pn ≡ 3) where
  pub characteristic_nonce : take 3 (characteristic_image key pn sn level v p) ≡ pn
  unfolding characteristic_image
  characteristic_nonce = nonce_enveloped key pn sn level (characteristic_text v p) three-bytes

  pub characteristic_number : nonce_number (characteristic_image key pn sn level v p) ≡ nonce_number pn
  unfolding characteristic_image
  characteristic_number = number_enveloped key pn sn level (characteristic_text v p) three-bytes

  pub characteristic_level : get_or (characteristic_image key pn sn level v p) 3 0 ≡ level
  unfolding characteristic_image
  characteristic_level = id_enveloped key pn sn level (characteristic_text v p) three-bytes

  pub characteristic_unsealed : deciphered key sn (characteristic_image key pn sn level v p) ≡ characteristic_text v p
  unfolding characteristic_image
  characteristic_unsealed = deciphered_enveloped key pn sn level (characteristic_text v p) three-bytes

  module _ (four_bytes : length v ≡ 4) where
    pub characteristic_length : length (characteristic_image key pn sn level v p) ≡ 4 + 16 * blocks_for (4 + length p)
    unfolding characteristic_image
    characteristic_length = omega (arith, length_enveloped key pn sn level (characteristic_text v p) three-bytes, length_text v p four_bytes)

    pub characteristic_blocks : blocks_in (characteristic_image key pn sn level v p) ≡ blocks_for (4 + length p)
    characteristic_blocks = omega (arith, characteristic_length)

    -- not 7
    pub characteristic_whole : length p ≤ 492 → wrong_length (characteristic_image key pn sn level v p) ≡ false
    unfolding characteristic_image characteristic_text
    characteristic_whole h = whole_padded key pn sn level (v ++ p) three-bytes (omega (arith, length-append v p)) (omega (arith, length-append v p))

-- two images with one key and session nonce
pub same_characteristic : (key sn : List ℕ) {pn pn' : List ℕ} {level level' : ℕ} {v v' p p' : List ℕ} → length pn ≡ 3 → length pn' ≡ 3
    → length v ≡ 4 → length v' ≡ 4 → length p ≡ 5 + num 2 3 p → length p' ≡ 5 + num 2 3 p'
    → characteristic_image key pn sn level v p ≡ characteristic_image key pn' sn level' v' p' → (pn ≡ pn') × (level ≡ level') × (v ≡ v') × (p ≡ p')
unfolding characteristic_image
same_characteristic key sn {v} {v'} {p} {p'} h h' k k' s s' e =
    let d = same_enveloped key sn h h' e in (
      d.0,
      d.1,
      sym (front_text v p k) ∙ ap (take 4) d.2 ∙ front_text v' p' k',
      sym (packet_text_lem v p k s) ∙ ap packet_in d.2 ∙ packet_text_lem v' p' k' s',
    )
