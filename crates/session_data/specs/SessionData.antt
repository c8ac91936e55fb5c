-- Document 02 §3: the session data, one block of 16 bytes, read from a module and written.
use Rattle.std.specs.Prelude.{ℕ, ◌≡◌, not, List, [], ◌∷◌, ◌++◌, length, take, drop, eqb, Option, is_some, Result, Ok, Err}
use Rattle.wire.specs.Numbers.{num, le}
use Rattle.wire.specs.Rules.{Rule, ◌when◌, judge}
use Rattle.wire.specs.Refusals.{number_of, checked_by}
use Rattle.wire.specs.Content.{Judged, accepted, refused}
use Rattle.wire.specs.Writing.{Stores, no_room}
use Rattle.wire.specs.declared.refusals.Refusal.{Refusal}
use Rattle.aes.specs.Cipher.{cipher}
use Rattle.aes.specs.InvCipher.{inv_cipher}
use Rattle.access.specs.declared.Mode.{Mode}
use Rattle.access.specs.declared.Mode.TheVariants.{Normal, Setup}
use Rattle.session.specs.Session.{with_data}
use Rattle.session.specs.declared.Connection.{Connection}
use Rattle.session.specs.Keys.{key_bytes}
use Rattle.session.specs.declared.Keys.{Keys}
use Rattle.session_data.specs.declared.DataRead.{DataRead}

-- under the basic key, or the setup key in setup mode
abbrev pub data_key : Keys → Mode → Option (List ℕ)
data_key k Normal = k.basic
data_key k Setup = k.setup

-- ---- writing
-- CAFEBABE (4), protocol, session nonce (5), validation key (4), two zero bytes
unfoldable pub data_text : List ℕ → List ℕ → List ℕ
data_text nonce validation = le 4 0xCAFEBABE ++ (5 ∷ (nonce ++ (validation ++ (0 ∷ 0 ∷ []))))

-- ECB: the block by itself is enciphered
unfoldable pub data_image : List ℕ → List ℕ → List ℕ → List ℕ
data_image key nonce validation = cipher key (data_text nonce validation)

-- 'Room': 25, then 10 where the reader would. No 17: its reader refuses no session nonce and no validation key
abbrev pub data_write_rules : Option (List ℕ) → List ℕ → List ℕ → List Rule
data_write_rules key image room = no_room 0 image room ∷ (10 when not (is_some key)) ∷ []

abbrev pub WritesData : Option (List ℕ) → List ℕ → List ℕ → List ℕ → Result ℕ Refusal → List ℕ → Type 0
WritesData key nonce validation room answer after =
    let image : List ℕ = data_image (key_bytes key) nonce validation in
    Stores (data_write_rules key image room) 0 image room answer after

-- ---- reading
-- the block deciphered
abbrev pub text_of : Option (List ℕ) → List ℕ → List ℕ
text_of key block = inv_cipher (key_bytes key) block

abbrev pub nonce_in : List ℕ → List ℕ
nonce_in text = take 5 (drop 5 text)

abbrev pub validation_in : List ℕ → List ℕ
validation_in text = take 4 (drop 10 text)

-- of the block deciphered: 11, 13 for the last two bytes, 19 for a protocol other than 5
unfoldable pub data_text_rules : List ℕ → List Rule
data_text_rules text =
    (11 when not (eqb (num 4 0 text) 0xCAFEBABE))
    ∷ (13 when not (eqb (num 2 14 text) 0))
    ∷ (19 when not (eqb (num 1 4 text) 5))
    ∷ []

-- in this order: 7 for a length other than 16, 10, and those
unfoldable pub data_read_rules : Option (List ℕ) → List ℕ → List Rule
data_read_rules key block =
    (7 when not (eqb (length block) 16))
    ∷ (10 when not (is_some key))
    ∷ data_text_rules (text_of key block)

-- by the first broken rule: an accepted block makes a connection session; a refused one leaves the old
abbrev pub read_by : List Rule → Connection → List ℕ → DataRead
read_by rules old text =
    record {
      answer = checked_by rules;
      connection = judge (λ n. old) rules (with_data old (nonce_in text) (validation_in text));
    }

unfoldable pub data_read : Option (List ℕ) → Connection → List ℕ → DataRead
data_read key old block = read_by (data_read_rules key block) old (text_of key block)

-- the numbers: the session nonce and the validation key of the connection after it, or the refusal's number
abbrev pub read_number : Result (Unit {0}) Refusal → Connection → Judged (List (List ℕ)) ℕ
read_number (Ok u) c = accepted (c.nonce ∷ c.validation ∷ [])
read_number (Err r) c = refused (number_of r)

-- what the reader promises
pub record ReadsData (key : Option (List ℕ)) (old : Connection) (block : List ℕ) (r : DataRead) : Type 0 where
  pub number :
      read_number r.answer r.connection
      ≡ judge refused (data_read_rules key block) (accepted (nonce_in (text_of key block) ∷ validation_in (text_of key block) ∷ []))
  -- the answer by the cases of the enum, and every field of the connection after it
  pub reads : r ≡ data_read key old block
