-- Lengths of padded bytes and of envelopes, and the blocks of an envelope deciphered: opening undoes sealing, for every key, nonce and text. Assumes nothing.
use mathlib.Core.Path.{◌≡◌, sym, ap, ◌∙◌}
use mathlib.Core.Bool.{false}
use mathlib.Core.List.{List, [], ◌∷◌, ◌++◌}
use Prim.Native.Nat.{ℕ, ◌+◌, ◌-◌, ◌*◌, ◌≤◌, ◌<◌}
use native.Mathlib.Omega.{arith}
use lib.ListN.{length, get_or, take, drop, replicate, length-append, length-replicate, length-drop}
use lib.Seq.{take_at, drop_at, get_or_at, get_or-take, drop-drop}
use borrow.Author.Tests.{le-ltb, eq-eqb}
use Rattle.wire.proofs.Lists.{nil_of}
use Rattle.wire.proofs.Fields.{to_end}
use Rattle.aes.specs.Ctr.{blocks_for, ctr_of}
use Rattle.aes.proofs.KeyStream.{length_ctr, ctr_twice}
use Rattle.envelope.specs.Blocks.{padding_for, padded, enveloped, blocks_in, deciphered, wrong_length, nonce_bytes, nonce_number}
use Rattle.envelope.proofs.Bytes.{three}

-- `blocks_for n` blocks hold n bytes, and fewer do not
pub blocks_hold : (n : ℕ) → n ≤ 16 * blocks_for n
blocks_hold n = omega arith

pub blocks_least : (n k : ℕ) → n ≤ 16 * k → blocks_for n ≤ k
blocks_least n k h = omega arith

pub length_padded : (s : List ℕ) → length (padded s) ≡ 16 * blocks_for (length s)
length_padded s =
    let k : ℕ = padding_for s in
    omega (arith, length-append s (replicate k 0), length-replicate {A = ℕ} k 0)

-- a packet nonce is that of the first three bytes
number_front : (s : List ℕ) → nonce_number (take 3 s) ≡ nonce_number s
number_front s = rw (get_or-take 3 s 0 0 (omega arith), get_or-take 3 s 1 0 (omega arith), get_or-take 3 s 2 0 (omega arith))

module _ (key pn sn : List ℕ) (id : ℕ) (text : List ℕ) (three-bytes : length pn ≡ 3) where
  pub length_enveloped : length (enveloped key pn sn id text) ≡ 4 + length text
  unfolding enveloped
  length_enveloped = omega (arith, length-append pn (id ∷ ctr_of key pn sn text), length_ctr key pn sn text)

  pub nonce_enveloped : take 3 (enveloped key pn sn id text) ≡ pn
  unfolding enveloped
  nonce_enveloped = take_at pn (id ∷ ctr_of key pn sn text) 3 three-bytes

  pub number_enveloped : nonce_number (enveloped key pn sn id text) ≡ nonce_number pn
  number_enveloped = sym (number_front (enveloped key pn sn id text)) ∙ ap nonce_number nonce_enveloped

  pub id_enveloped : get_or (enveloped key pn sn id text) 3 0 ≡ id
  unfolding enveloped
  id_enveloped = get_or_at pn id (ctr_of key pn sn text) 0 3 three-bytes

  blocks_enveloped : drop 4 (enveloped key pn sn id text) ≡ ctr_of key pn sn text
  unfolding enveloped
  blocks_enveloped =
      sym (drop-drop 1 3 (pn ++ (id ∷ ctr_of key pn sn text))) ∙ ap (drop 1) (drop_at pn (id ∷ ctr_of key pn sn text) 3 three-bytes)

  -- opening undoes sealing
  pub deciphered_enveloped : deciphered key sn (enveloped key pn sn id text) ≡ text
  unfolding deciphered
  deciphered_enveloped = rw (nonce_enveloped, blocks_enveloped) (ctr_twice key pn sn text)

-- an envelope is made in one way
pub same_enveloped : (key sn : List ℕ) {pn pn' : List ℕ} {id id' : ℕ} {text text' : List ℕ} → length pn ≡ 3 → length pn' ≡ 3
    → enveloped key pn sn id text ≡ enveloped key pn' sn id' text' → (pn ≡ pn') × (id ≡ id') × (text ≡ text')
same_enveloped key sn {pn} {pn'} {id} {id'} {text} {text'} h h' e = (
  sym (nonce_enveloped key pn sn id text h) ∙ ap (take 3) e ∙ nonce_enveloped key pn' sn id' text' h',
  sym (id_enveloped key pn sn id text h) ∙ ap (λ (l : List ℕ). get_or l 3 0) e ∙ id_enveloped key pn' sn id' text' h',
  sym (deciphered_enveloped key pn sn id text h) ∙ ap (deciphered key sn) e ∙ deciphered_enveloped key pn' sn id' text' h',
)

-- padded bytes in an envelope: n is the least number of blocks that holds them
module _ (key pn sn : List ℕ) (id : ℕ) (s : List ℕ) (three-bytes : length pn ≡ 3) where
  pub blocks_padded : blocks_in (enveloped key pn sn id (padded s)) ≡ blocks_for (length s)
  blocks_padded = omega (arith, length_enveloped key pn sn id (padded s) three-bytes, length_padded s)

  pub whole_padded : 1 ≤ length s → length s ≤ 496 → wrong_length (enveloped key pn sn id (padded s)) ≡ false
  unfolding wrong_length
  whole_padded lo hi =
      let b : ℕ = blocks_for (length s) in
      let l : length (enveloped key pn sn id (padded s)) ≡ 4 + 16 * b = omega (arith, length_enveloped key pn sn id (padded s) three-bytes, length_padded s) in
      rw (blocks_padded, le-ltb b 1 (omega arith), le-ltb 31 b (omega arith), eq-eqb _ _ l)

-- ---- the blocks deciphered
module _ (key sn payload : List ℕ) where
  pub length_deciphered : length (deciphered key sn payload) ≡ length payload - 4
  unfolding deciphered
  length_deciphered = length_ctr key (take 3 payload) sn (drop 4 payload) ∙ length-drop 4 payload

  pub none_deciphered : length payload < 4 → deciphered key sn payload ≡ []
  none_deciphered h = nil_of (deciphered key sn payload) (omega (arith, length_deciphered))

  pub deciphered_is : 4 ≤ length payload
      → ctr_of key (get_or payload 0 0 ∷ get_or payload 1 0 ∷ get_or payload 2 0 ∷ []) sn (take (length payload - 4) (drop 4 payload)) ≡ deciphered key sn payload
  unfolding deciphered
  deciphered_is h = rw (three payload (omega arith), to_end payload 4)

  -- as a build's cipher is given them
  pub deciphered_as : 4 ≤ length payload → ctr_of key (nonce_bytes payload) sn (drop 4 payload) ≡ deciphered key sn payload
  unfolding deciphered
  deciphered_as h = rw (three payload (omega arith))
