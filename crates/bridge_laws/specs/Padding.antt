-- Document 02 §2: whatever bytes pad an encrypted message, its frame is opened as if we had sealed it, and the work buffer keeps that padding. The
-- statement, `AnyPadding`; proofs/Padding.antt proves it for every context.
use Rattle.std.specs.Prelude.{ℕ, ◌*◌, ◌≤◌, ◌≡◌, true, false, List, ◌++◌, length, drop, is_some}
use Rattle.wire.specs.Rules.{judge}
use Rattle.wire.specs.Content.{Judged, Content, accepted}
use Rattle.message.specs.Accepts.{AcceptsMessage}
use Rattle.message.specs.Reading.{table_content}
use Rattle.message.specs.declared.Form.TheVariants.{Encrypted}
use Rattle.session.specs.Session.{session_there, valid_at}
use Rattle.envelope.specs.Blocks.{padding_for, blocks_in, used_again}
use Rattle.envelope.specs.Sealed.{unpadded, sealed_image, sealed_with}
use Rattle.bridge.specs.Content.{Given, answer_content}
use Rattle.bridge.specs.Opener.{admin_key, uart_open_rules, opened, work_after}
use Rattle.bridge.specs.declared.Context.{Context}
use Rattle.session.specs.Keys.{key_bytes}

-- as many bytes as fill up to the next multiple of 16
abbrev pub Fills : List ℕ → List ℕ → Type 0
Fills m padding = length padding ≡ padding_for (unpadded m)

-- a message under the admin key and the session nonce of a context: as we seal it, and with that padding
abbrev pub zero_padded : Context → List ℕ → List ℕ → List ℕ
zero_padded g pn m = sealed_image (key_bytes (admin_key g)) pn g.session.nonce m

abbrev pub padded_with : Context → List ℕ → List ℕ → List ℕ → List ℕ
padded_with g pn m padding = sealed_with (key_bytes (admin_key g)) pn g.session.nonce m padding

-- what opening an encrypted frame gives: every field and the bytes of each part, or the refusal's number and reply
abbrev pub content_given : Context → ℕ → List ℕ → List ℕ → Judged Content Given
content_given g major p work = answer_content (opened g (length work) major 128 p).answer p (work_after g major 128 p work)

-- ---- every message, refused ones too
pub record OpensAsOurs (g : Context) (major : ℕ) (pn m padding : List ℕ) : Type 0 where
  -- the same message and place of its payload, or the same refusal and reply; the same session after it
  pub opens : (room : ℕ) → opened g room major 128 (padded_with g pn m padding) ≡ opened g room major 128 (zero_padded g pn m)
  pub content : (work : List ℕ) → content_given g major (padded_with g pn m padding) work ≡ content_given g major (zero_padded g pn m) work
  -- refused, the work buffer is as ours leaves it; accepted, its first 16n bytes are deciphered, the padding as it came
  pub leaves :
      (work : List ℕ) → work_after g major 128 (padded_with g pn m padding) work
      ≡ judge (λ n. work_after g major 128 (zero_padded g pn m) work) (uart_open_rules g (length work) major 128 (padded_with g pn m padding))
      ((unpadded m ++ padding) ++ drop (16 * blocks_in (padded_with g pn m padding)) work)

-- ---- a message that may come through
-- demand 2's conditions, framing aside: key, session, a packet nonce that is not remembered, length; data type, form, mode, access and payload
pub record PermittedMessage (g : Context) (pn m : List ℕ) : Type 0 where
  pub key : is_some (admin_key g) ≡ true
  pub session : session_there g.session ≡ true
  pub valid : valid_at g.session g.time ≡ true
  pub differs : used_again g.session.memory pn ≡ false
  pub most : length m ≤ 490
  pub message : AcceptsMessage Encrypted g.required g.mode m

-- given room for its blocks
pub record ComesThrough (g : Context) (pn m padding work : List ℕ) : Type 0 where
  -- accepted with the fields and bytes that the tables read from it
  pub content : content_given g 1 (padded_with g pn m padding) work ≡ accepted (table_content m)
  pub leaves : work_after g 1 128 (padded_with g pn m padding) work ≡ (unpadded m ++ padding) ++ drop (16 * blocks_in (padded_with g pn m padding)) work

-- ---- the statement: for every packet nonce of three bytes and every padding that fills
pub record AnyPadding (g : Context) : Type 0 where
  pub same : (major : ℕ) (pn m padding : List ℕ) → length pn ≡ 3 → Fills m padding → OpensAsOurs g major pn m padding
  pub through :
      (pn m padding work : List ℕ) → length pn ≡ 3 → Fills m padding → PermittedMessage g pn m → 16 * blocks_in (padded_with g pn m padding) ≤ length work
      → ComesThrough g pn m padding work
