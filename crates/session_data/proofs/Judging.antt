-- How the reader and the writer of session data end, and the bytes of a block by their places. Assumes nothing.
use mathlib.Core.Path.{◌≡◌, ◌∙◌, refl, ap, ap₂, subst}
use mathlib.Core.Bool.{true, false, not}
use mathlib.Core.List.{List, [], ◌∷◌, ◌++◌, append-nil}
use Prim.Native.Nat.{ℕ, zero, suc, ◌+◌, ◌≤◌, ◌<◌}
use native.Mathlib.Omega.{arith}
use lib.ListN.{length, get_or, drop_of_length-le}
use borrow.Author.Tests.{eq-eqb, ne_eqb, lt-ltb, le-ltb}
use Rattle.wire.specs.Numbers.{le}
use Rattle.wire.specs.Rules.{Rule, ◌when◌, first_broken, verdict, judge}
use Rattle.wire.specs.Content.{Judged, accepted, refused}
use Rattle.wire.specs.Writing.{Stores, no_room}
use Rattle.std.specs.Prelude.{Option, is_some, Result, Ok, Err}
use Rattle.wire.specs.Refusals.{refusing, checked_by}
use Rattle.wire.specs.declared.refusals.Refusal.{Refusal}
use Rattle.wire.proofs.Listed.{Listed, first_listed}
use Rattle.wire.proofs.Writing.{stores_refused}
use Rattle.aes.specs.Cipher.{from}
use Rattle.aes.proofs.Filled.{places}
use Rattle.aes.proofs.Cipher.{length_cipher}
use Rattle.session.specs.Session.{with_data}
use Rattle.session.specs.declared.Connection.{Connection}
use Rattle.session.specs.Keys.{key_bytes}
use Rattle.session_data.specs.SessionData.{data_text, data_image, data_write_rules, WritesData, text_of, nonce_in, validation_in, data_text_rules, data_read_rules, read_by, data_read, read_number, ReadsData}
use Rattle.session_data.specs.declared.DataRead.{DataRead}

pub text_is : (nonce validation : List ℕ) → length nonce ≡ 5 → length validation ≡ 4
    → data_text nonce validation
    ≡ le 4 0xCAFEBABE ++ (5 ∷ (from (λ i. get_or nonce i 0) 0 5 ++ (from (λ i. get_or validation i 0) 0 4 ++ (0 ∷ 0 ∷ []))))
unfolding data_text
text_is nonce validation n v = ap₂ (λ (s t : List ℕ). le 4 0xCAFEBABE ++ (5 ∷ (s ++ (t ++ (0 ∷ 0 ∷ []))))) (places 5 nonce n) (places 4 validation v)

pub nonce_is : (text : List ℕ) → length text ≡ 16 → nonce_in text ≡ from (λ i. get_or text i 0) 5 5
unfolding from
nonce_is text e = ap nonce_in (places 16 text e)

pub validation_is : (text : List ℕ) → length text ≡ 16 → validation_in text ≡ from (λ i. get_or text i 0) 10 4
unfolding from
validation_is text e = ap validation_in (places 16 text e)

pub length_image : (key nonce validation : List ℕ) → length (data_image key nonce validation) ≡ 16
unfolding data_image
length_image key nonce validation = length_cipher key (data_text nonce validation)

-- ---- the writer
module _ (key : Option (List ℕ)) (nonce validation room : List ℕ) where
  abbrev image : List ℕ
  image = data_image (key_bytes key) nonce validation

  sixteen : length image ≡ 16
  sixteen = length_image (key_bytes key) nonce validation

  pub short_room : length room < 16 → WritesData key nonce validation room (refusing 25) room
  short_room h = stores_refused 0 image room (data_write_rules key image room) 24 refl (rw (lt-ltb (length room) (0 + length image) (omega (arith, sixteen))))

  pub no_key_lem : 16 ≤ length room → is_some key ≡ false → WritesData key nonce validation room (refusing 10) room
  no_key_lem h e =
      stores_refused 0 image room (data_write_rules key image room) 9 refl (rw (le-ltb (length room) (0 + length image) (omega (arith, sixteen)), e))

  pub with_key : {answer : Result ℕ Refusal} {after block : List ℕ} → is_some key ≡ true → block ≡ image → Stores (no_room 0 block room ∷ []) 0 block room answer after
      → WritesData key nonce validation room answer after
  with_key {answer} {after} e b w =
      subst (λ (l : List ℕ). Stores (no_room 0 l room ∷ (10 when not (is_some key)) ∷ []) 0 l room answer after) b
      (record { number = rw e w.number; answers = rw e w.answers; leaves = rw e w.leaves })

-- ---- the reader
-- bytes of the room's length, stored
pub stored_whole : {answer : Result ℕ Refusal} {block room after : List ℕ} → length block ≡ length room → Stores (no_room 0 block room ∷ []) 0 block room answer after
    → after ≡ block
stored_whole {block} {room} e w =
    w.leaves ∙ rw (le-ltb (length room) (0 + length block) (omega arith), drop_of_length-le room {i = 0 + length block} (omega arith)) (append-nil block)

-- the answer and the connection session after it, by the text or the refusal that a block gives
unfoldable pub read_as : Result (List ℕ) Refusal → Connection → DataRead
read_as (Ok text) old = record { answer = Ok tt; connection = with_data old (nonce_in text) (validation_in text) }
read_as (Err r) old = record { answer = Err r; connection = old }

pub read_as_by : (rules : List Rule) (old : Connection) (text : List ℕ) → read_as (judge refusing rules (Ok text)) old ≡ read_by rules old text
unfolding read_as
read_as_by rules old text = go (first_broken rules)
  where
    go : (n : ℕ) → read_as (verdict refusing n (Ok text)) old
        ≡ record { answer = verdict refusing n (Ok tt); connection = verdict (λ m. old) n (with_data old (nonce_in text) (validation_in text)) }
    go zero = refl
    go (suc n) = refl

pub by_accepted : (rules : List Rule) (old : Connection) (text : List ℕ) → 0 ≡ first_broken rules
    → record { answer = Ok tt; connection = with_data old (nonce_in text) (validation_in text) } ≡ read_by rules old text
by_accepted rules old text e = rw (← e)

module _ (key : Option (List ℕ)) (old : Connection) (block : List ℕ) where
  -- the number and the values follow
  pub reads_data : (r : DataRead) → r ≡ data_read key old block → ReadsData key old block r
  unfolding data_read data_read_rules data_text_rules
  reads_data r e =
      record {
        number = ap (λ (r : DataRead). read_number r.answer r.connection) e
            ∙ numbered (data_read_rules key block) (tt, (tt, (tt, (tt, (tt, tt)))));
        reads = e;
      }
    where
      after : ℕ → Connection
      after n = verdict (λ m. old) n (with_data old (nonce_in (text_of key block)) (validation_in (text_of key block)))

      good : Judged (List (List ℕ)) ℕ
      good = accepted (nonce_in (text_of key block) ∷ validation_in (text_of key block) ∷ [])

      numbered : (rules : List Rule) → Listed rules → read_number (checked_by rules) (after (first_broken rules)) ≡ judge refused rules good
      numbered rules l = go (first_broken rules) refl
        where
          go : (n : ℕ) → first_broken rules ≡ n → read_number (verdict refusing n (Ok tt)) (after n) ≡ verdict refused n good
          go zero e = refl
          go (suc n) e = ap refused (first_listed rules l n e)

module _ (key : Option (List ℕ)) (block : List ℕ) where
  -- a block of another length, without a key, under a key
  pub wrong_length_lem : (length block ≡ 16 → ⊥) → refusing 7 ≡ judge refusing (data_read_rules key block) (Ok (text_of key block))
  unfolding data_read_rules
  wrong_length_lem h = rw (ne_eqb (length block) 16 h)

  pub key_absent : length block ≡ 16 → is_some key ≡ false → refusing 10 ≡ judge refusing (data_read_rules key block) (Ok (text_of key block))
  unfolding data_read_rules
  key_absent l e = rw (eq-eqb (length block) 16 l, e)

  pub key_there : length block ≡ 16 → is_some key ≡ true → {r : Result (List ℕ) Refusal} → r ≡ judge refusing (data_text_rules (text_of key block)) (Ok (text_of key block))
      → r ≡ judge refusing (data_read_rules key block) (Ok (text_of key block))
  unfolding data_read_rules
  key_there l e h = h ∙ rw (eq-eqb (length block) 16 l, e)

pub key_read : (key : Option (List ℕ)) (old : Connection) (block : List ℕ) → length block ≡ 16 → is_some key ≡ true
    → read_by (data_text_rules (text_of key block)) old (text_of key block) ≡ data_read key old block
unfolding data_read_rules data_read
key_read key old block l e = rw (eq-eqb (length block) 16 l, e)
