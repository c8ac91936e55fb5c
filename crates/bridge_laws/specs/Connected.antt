-- Document 02 §3: the connection session that is read from session data opens what was sealed with its session nonce and its validation key.
-- The statement; proofs/Connected.antt proves it, for every level.
use Rattle.std.specs.Prelude.{ℕ, ◌≤◌, ◌≡◌, true, false, List, length, is_some, Ok}
use Rattle.aes.specs.Inverse.{SixteenBytes}
use Rattle.access.specs.Level.{level_number}
use Rattle.access.specs.declared.Access.TheVariants.{Keyed}
use Rattle.access.specs.declared.Level.{Level}
use Rattle.control.specs.Control.{command_at, read_control}
use Rattle.session.specs.Keys.{key_for, key_bytes}
use Rattle.session.specs.Session.{with_data}
use Rattle.envelope.specs.Blocks.{used_again}
use Rattle.envelope.specs.Characteristic.{characteristic_image}
use Rattle.session_data.specs.SessionData.{data_key, data_image, data_read}
use Rattle.session_data.specs.RoundTrip.{Sized}
use Rattle.bridge.specs.declared.Link.{Link}
use Rattle.bridge_laws.specs.RoundTrip.{packet_sealed, OpensAgain}

-- the block that a module with a link's keys and mode writes
abbrev pub block_for : Link → List ℕ → List ℕ → List ℕ
block_for k nonce validation = data_image (key_bytes (data_key k.keys k.mode)) nonce validation

-- the link after a block was read
abbrev pub link_after : Link → List ℕ → Link
link_after k block = record { connection = (data_read (data_key k.keys k.mode) k.connection block).connection; keys = k.keys; mode = k.mode }

-- both keys are there, the packet nonce is none of those that the connection remembers after the block and has 3 bytes, and the reader accepts the packet
-- from that level; of the old connection nothing else is asked
pub record Connectable (k : Link) (level : Level) (nonce validation pn packet : List ℕ) : Type 0 where
  pub data_key_there : is_some (data_key k.keys k.mode) ≡ true
  pub data_bytes : SixteenBytes (key_bytes (data_key k.keys k.mode))
  pub sized : Sized nonce validation
  pub key : is_some (key_for k.keys k.mode level) ≡ true
  pub differs : used_again (with_data k.connection nonce validation).memory pn ≡ false
  pub three : length pn ≡ 3
  pub most : length packet ≤ 492
  pub read : read_control packet k.mode (Keyed level) ≡ Ok (command_at packet)

pub record OpensConnected (k : Link) (level : Level) (nonce validation pn packet : List ℕ) : Type 0 where
  pub connection : (link_after k (block_for k nonce validation)).connection ≡ with_data k.connection nonce validation
  -- what is sealed with that nonce and that validation key is what the link's own sealing makes
  pub sealed :
      characteristic_image (key_bytes (key_for k.keys k.mode level)) pn nonce (level_number level) validation packet
      ≡ packet_sealed (link_after k (block_for k nonce validation)) level pn packet
  -- and is opened as its command, with the fields and bytes that the table reads from the packet
  pub opens : OpensAgain (link_after k (block_for k nonce validation)) level pn packet
