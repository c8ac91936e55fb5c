-- A draft by what is found, and what its cipher makes of it is what the sealer promises. Assumes nothing.
use mathlib.Core.Path.{◌≡◌, refl, ap, ◌∙◌, subst}
use mathlib.Core.Bool.{Bool, true, false, not}
use mathlib.Core.List.{List, [], ◌∷◌, ◌++◌}
use Prim.Native.Nat.{ℕ, ◌+◌, ◌*◌, ◌≤◌, ◌<◌}
use native.Mathlib.Omega.{arith}
use lib.ListN.{length, take, length-append}
use lib.Dec.{ltb}
use borrow.Author.Tests.{lt-ltb, le-ltb, ltb-true, ltb-false}
use Rattle.wire.specs.Rules.{◌when◌, judge}
use Rattle.wire.specs.Writing.{placed}
use Rattle.std.specs.Prelude.{Result, Ok, Err, Option, is_some}
use Rattle.wire.specs.declared.refusals.Refusal.{Refusal}
use Rattle.wire.specs.Refusals.{refusing}
use Rattle.wire.proofs.Writing.{stores_past}
use Rattle.aes.specs.Ctr.{blocks_for}
use Rattle.session.specs.Keys.{key_bytes}
use Rattle.envelope.specs.Blocks.{padded, enveloped, outside, Seals}
use Rattle.envelope.specs.Sealed.{unpadded}
use Rattle.envelope.specs.Draft.{full_draft, draft_of}
use Rattle.envelope.specs.declared.Draft.{Draft}
use Rattle.envelope.proofs.Envelopes.{length_padded, length_enveloped}
use Rattle.envelope.proofs.Sealers.{padded_front, no_room_lem, no_key_lem, made, wrong_size_lem, within}

-- ---- a draft, by what is found
module _ (key : Option (List ℕ)) (id : ℕ) (s : List ℕ) (room : ℕ) where
  pub draft_misfit : {bad : Bool} → bad ≡ true → refusing 17 ≡ draft_of key bad id s room
  unfolding draft_of
  draft_misfit e = rw e

  pub draft_short : room < 4 + 16 * blocks_for (length s) → refusing 25 ≡ draft_of key false id s room
  unfolding draft_of
  draft_short h = rw (lt-ltb room (4 + 16 * blocks_for (length s)) h)

  pub draft_keyless : 4 + 16 * blocks_for (length s) ≤ room → is_some key ≡ false → refusing 10 ≡ draft_of key false id s room
  unfolding draft_of
  draft_keyless h e = rw (le-ltb room (4 + 16 * blocks_for (length s)) h, e)

  pub draft_full : 4 + 16 * blocks_for (length s) ≤ room → is_some key ≡ true → Ok (full_draft (key_bytes key) id s) ≡ draft_of key false id s room
  unfolding draft_of
  draft_full h e = rw (le-ltb room (4 + 16 * blocks_for (length s)) h, e)

-- of a size within the limits: key, ID and text by the names of the definitions
pub drafted_as : (room : ℕ) {key key' : Option (List ℕ)} {bad : Bool} {id id' : ℕ} {s s' : List ℕ} {d : Result Draft Refusal}
    → bad ≡ false → key ≡ key' → id ≡ id' → s ≡ s' → d ≡ draft_of key false id s room → d ≡ draft_of key' bad id' s' room
drafted_as room e ek ei es w = cc

-- ---- a draft that was made, and one that was refused
module _ (key : Option (List ℕ)) (bad : Bool) (id : ℕ) (s : List ℕ) (room : ℕ) where
  -- no rule was broken, and the draft is the full one
  record Full (d : Draft) : Type 0 where
    pub sized : bad ≡ false
    pub fits : 4 + 16 * blocks_for (length s) ≤ room
    pub held : is_some key ≡ true
    pub is : d ≡ full_draft (key_bytes key) id s

  full_by : (b f h : Bool) {d : Draft} → bad ≡ b → ltb room (4 + 16 * blocks_for (length s)) ≡ f → is_some key ≡ h
      → Ok d ≡ judge refusing ((17 when b) ∷ (25 when f) ∷ (10 when not h) ∷ []) (Ok (full_draft (key_bytes key) id s)) → Full d
  full_by true f h eb ef eh e = absurd (cc)
  full_by false true h eb ef eh e = absurd (cc)
  full_by false false false eb ef eh e = absurd (cc)
  full_by false false true eb ef eh e = record { sized = eb; fits = ltb-false room (4 + 16 * blocks_for (length s)) ef; held = eh; is = cc }

  drafted : {d : Draft} → Ok d ≡ draft_of key bad id s room → Full d
  unfolding draft_of
  drafted e = full_by bad (ltb room (4 + 16 * blocks_for (length s))) (is_some key) refl refl refl e

  -- there is room for its blocks and the front
  pub draft_fits : {d : Draft} → Ok d ≡ draft_of key bad id s room → 4 + d.len ≤ room
  draft_fits e =
      let f = drafted e in
      let l = ap (λ (x : Draft). x.len) f.is in
      omega (arith, f.fits)

  -- and its blocks stand in its text
  pub draft_whole : {d : Draft} → (bad ≡ false → length s ≤ 496) → Ok d ≡ draft_of key bad id s room → d.len ≤ 496
  draft_whole short e =
      let f = drafted e in
      let l = ap (λ (x : Draft). x.len) f.is in
      let k = short f.sized in
      omega arith

-- ---- what is sealed by it
module _ (key : Option (List ℕ)) (bad : Bool) (id : ℕ) (s pn sn room : List ℕ) (three-bytes : length pn ≡ 3) where
  abbrev image : List ℕ
  image = enveloped (key_bytes key) pn sn id (padded s)

  length_image : length image ≡ 4 + 16 * blocks_for (length s)
  length_image = omega (arith, length_enveloped (key_bytes key) pn sn id (padded s) three-bytes, length_padded s)

  refused_as : (n : ℕ) {r : Refusal} → ◌≡◌ {A = Result Draft Refusal} (Err r) (refusing n) → Seals key bad image room (refusing n) room → Seals key bad image room (Err r) room
  refused_as n e w = subst (λ (a : Result ℕ Refusal). Seals key bad image room a room) (cc) w

  refused_by : (b f h : Bool) {r : Refusal} → bad ≡ b → ltb (length room) (4 + 16 * blocks_for (length s)) ≡ f → is_some key ≡ h
      → Err r ≡ judge refusing ((17 when b) ∷ (25 when f) ∷ (10 when not h) ∷ []) (Ok (full_draft (key_bytes key) id s))
      → Seals key bad image room (Err r) room
  refused_by true f h eb ef eh e = refused_as 17 e (wrong_size_lem key bad image room eb)
  refused_by false true h eb ef eh e =
      refused_as 25 e
      (stores_past 0 image room 17 bad eb (no_room_lem image room (is_some key) (omega (arith, length_image, ltb-true (length room) (4 + 16 * blocks_for (length s)) ef))))
  refused_by false false false eb ef eh e =
      refused_as 10 e
      (stores_past 0 image room 17 bad eb (no_key_lem image room (is_some key) (omega (arith, length_image, ltb-false (length room) (4 + 16 * blocks_for (length s)) ef)) eh))
  refused_by false false true eb ef eh e = absurd (cc)

  -- the draft's refusal is the sealer's
  pub refused_seals : {r : Refusal} → Err r ≡ draft_of key bad id s (length room) → Seals key bad image room (Err r) room
  unfolding draft_of
  refused_seals e = refused_by bad (ltb (length room) (4 + 16 * blocks_for (length s))) (is_some key) refl refl refl e

  -- its blocks enciphered behind its front are the sealer's image
  pub draft_seals : {d : Draft} {n : ℕ} {after : List ℕ} → (bad ≡ false → length s ≤ 496) → Ok d ≡ draft_of key bad id s (length room) → n ≡ 4 + d.len
      → after ≡ placed 0 (enveloped d.key pn sn d.id (take d.len d.text)) room → Seals key bad image room (Ok n) after
  draft_seals {d} {n} short e en ea =
      let f = drafted key bad id s (length room) e in
      let y = padded_front s (length s) 496 (16 * blocks_for (length s)) refl refl (omega (arith, short f.sized)) in
      let t = ap (λ (x : Draft). enveloped x.key pn sn x.id (take x.len x.text)) f.is ∙ ap (λ (x : List ℕ). enveloped (key_bytes key) pn sn id x) y in
      let l : n ≡ length image = omega (arith, length_image, ap (λ (x : Draft). x.len) f.is) in
      stores_past 0 image room 17 bad f.sized
      (made image room (is_some key) (omega (arith, length_image, f.fits)) f.held l (ea ∙ ap (λ (x : List ℕ). placed 0 x room) t))

-- the text of a message and of a packet within the limits
pub message_short : (m : List ℕ) → outside 2 490 (length m) ≡ false → length (unpadded m) ≤ 496
message_short m e = omega (arith, within 2 490 (length m) refl e)

pub packet_short : (v p : List ℕ) → length v ≡ 4 → outside 5 492 (length p) ≡ false → length (v ++ p) ≤ 496
packet_short v p lv e = omega (arith, within 5 492 (length p) refl e, length-append v p)
