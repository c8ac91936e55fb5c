-- A command comes through exactly when framing, checksum, session, key, mode, access and payload all permit it: demand 2's conditions, one by one.
-- Document 02 §6 counts one more rule among those that must permit: refuse a packet nonce used again.
-- Framing and checksum are the receiver's; proofs/Accepts.antt proves that the openers accept exactly when the rest hold.
use Rattle.std.specs.Prelude.{ℕ, ◌+◌, ◌*◌, ◌≤◌, ◌≡◌, ◌⊎◌, Bool, true, false, List, length, get_or, take, drop, is_some, Ok, Err}
use Rattle.wire.specs.Numbers.{num}
use Rattle.aes.specs.Ctr.{blocks_for}
use Rattle.access.specs.Level.{level_of}
use Rattle.control.specs.Accepts.{Accepts}
use Rattle.message.specs.Accepts.{AcceptsMessage}
use Rattle.message.specs.declared.Form.TheVariants.{Plain, Encrypted}
use Rattle.session.specs.Session.{session_there, valid_at, connection_there}
use Rattle.session.specs.Keys.{key_for_number}
use Rattle.envelope.specs.Blocks.{blocks_in, used_again}
use Rattle.envelope.specs.Sealed.{message_size, message_in}
use Rattle.envelope.specs.Characteristic.{packet_size, all_zero, packet_in}
use Rattle.bridge.specs.Opener.{admin_key, uart_text}
use Rattle.bridge.specs.Characteristic.{access_for, packet_text}
use Rattle.bridge.specs.declared.Context.{Context}
use Rattle.bridge.specs.declared.Link.{Link}
use Rattle.bridge.specs.Content.{Answer, CommandAnswer}

abbrev pub is_accepted : Answer → Bool
is_accepted (Ok a) = true
is_accepted (Err r) = false

abbrev pub is_command : CommandAnswer → Bool
is_command (Ok a) = true
is_command (Err r) = false

-- 4 + 16n bytes, n 1 to 31, and room for n blocks
pub record AcceptsBlocks (p : List ℕ) (room : ℕ) : Type 0 where
  pub some : 1 ≤ blocks_in p
  pub most : blocks_in p ≤ 31
  pub whole : length p ≡ 4 + 16 * blocks_in p
  pub fits : 16 * blocks_in p ≤ room

-- ---- a frame
pub record AcceptsPlain (g : Context) (p : List ℕ) : Type 0 where
  pub some : 2 ≤ length p
  pub most : length p ≤ 507
  pub message : AcceptsMessage Plain g.required g.mode p

pub record AcceptsSealed (g : Context) (room : ℕ) (p : List ℕ) : Type 0 where
  pub blocks : AcceptsBlocks p room
  -- key ID 0, and the admin key held in this mode
  pub id : get_or p 3 0 ≡ 0
  pub key : is_some (admin_key g) ≡ true
  -- a session, which has not run out
  pub session : session_there g.session ≡ true
  pub valid : valid_at g.session g.time ≡ true
  -- the packet nonce differs from those remembered
  pub differs : used_again g.session.memory p ≡ false
  -- of the blocks deciphered: validation, message size, n the least; of the padding nothing
  pub validation : num 4 0 (uart_text g p) ≡ 0xCAFEBABE
  pub size : 2 ≤ message_size (uart_text g p)
  pub least : length (uart_text g p) ≡ 16 * blocks_for (6 + message_size (uart_text g p))
  pub message : AcceptsMessage Encrypted g.required g.mode (message_in (uart_text g p))

pub record AcceptsFrame (g : Context) (room major wrapper : ℕ) (p : List ℕ) : Type 0 where
  pub version : major ≡ 1
  pub form : (wrapper ≡ 0) ⊎ (wrapper ≡ 128)
  pub plain : wrapper ≡ 0 → AcceptsPlain g p
  pub sealed : wrapper ≡ 128 → AcceptsSealed g room p

-- ---- a characteristic packet
pub record AcceptsPacket (k : Link) (room : ℕ) (p : List ℕ) : Type 0 where
  pub blocks : AcceptsBlocks p room
  -- the key of its level held in this mode
  pub key : is_some (key_for_number k.keys k.mode (get_or p 3 0)) ≡ true
  pub session : connection_there k.connection ≡ true
  -- the packet nonce differs from those remembered
  pub differs : used_again k.connection.memory p ≡ false
  -- of the blocks deciphered: the connection's validation key, n the least, zero padding
  pub validation : take 4 (packet_text k p) ≡ k.connection.validation
  pub least : length (packet_text k p) ≡ 16 * blocks_for (4 + packet_size (packet_text k p))
  pub padding : all_zero (drop (4 + packet_size (packet_text k p)) (packet_text k p)) ≡ true
  -- the control packet: size, protocol, command, mode, access, payload
  pub packet : Accepts (packet_in (packet_text k p)) k.mode (access_for (level_of (get_or p 3 0)))
