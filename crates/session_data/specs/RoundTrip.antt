-- What is written of session data is read back, and what was read is written back. The statements; proofs/Trip.antt proves them.
use Rattle.std.specs.Prelude.{ℕ, ◌≡◌, true, List, length, take, Option, is_some, Result, Ok}
use Rattle.wire.specs.declared.refusals.Refusal.{Refusal}
use Rattle.wire.specs.Numbers.{Bytes}
use Rattle.aes.specs.Inverse.{SixteenBytes}
use Rattle.session.specs.Session.{with_data}
use Rattle.session.specs.declared.Connection.{Connection}
use Rattle.session.specs.Keys.{key_bytes}
use Rattle.session_data.specs.SessionData.{data_image, WritesData, text_of, nonce_in, validation_in, data_read}
use Rattle.session_data.specs.declared.DataRead.{DataRead}

-- a session nonce of five bytes and a validation key of four
pub record Sized (nonce validation : List ℕ) : Type 0 where
  pub five : length nonce ≡ 5
  pub four : length validation ≡ 4
  pub nonce_is_bytes : Bytes nonce
  pub validation_bytes : Bytes validation

-- accepted, as the connection session with them
abbrev pub connected : Connection → List ℕ → List ℕ → DataRead
connected old nonce validation = record { answer = Ok tt; connection = with_data old nonce validation }

-- under a key of 16 bytes, so in either mode under `data_key keys mode`, whatever connection session was there
pub record ReadsBack (key : Option (List ℕ)) : Type 0 where
  -- the block that is made of them, where the key is held
  pub reads :
      (nonce validation : List ℕ) → Sized nonce validation → is_some key ≡ true → (old : Connection)
      → data_read key old (data_image (key_bytes key) nonce validation) ≡ connected old nonce validation
  -- and what the writer says that it wrote
  pub wrote :
      (nonce validation : List ℕ) → Sized nonce validation → (room after : List ℕ) (answer : Result ℕ Refusal) (n : ℕ)
      → WritesData key nonce validation room answer after → answer ≡ Ok n → (old : Connection)
      → data_read key old (take n after) ≡ connected old nonce validation
  -- two different pairs never make the same block
  pub apart :
      (nonce validation nonce' validation' : List ℕ) → Sized nonce validation → Sized nonce' validation'
      → data_image (key_bytes key) nonce validation ≡ data_image (key_bytes key) nonce' validation' → (nonce ≡ nonce') × (validation ≡ validation')
  -- a block that is accepted is the one that is made of what was read from it
  pub writes :
      (old : Connection) (block : List ℕ) → SixteenBytes block → (data_read key old block).answer ≡ Ok tt
      → data_image (key_bytes key) (nonce_in (text_of key block)) (validation_in (text_of key block)) ≡ block
