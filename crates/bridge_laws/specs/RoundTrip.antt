-- What the sealer of characteristic packets writes of a packet that its reader accepts, the opener accepts as that command with those bytes.
-- The statement; proofs/RoundTrip.antt proves it, for every level.
use Rattle.std.specs.Prelude.{ℕ, ◌+◌, ◌*◌, ◌≤◌, ◌≡◌, true, false, List, length, take, is_some, Result, Ok}
use Rattle.wire.specs.Content.{accepted}
use Rattle.wire.specs.declared.refusals.Refusal.{Refusal}
use Rattle.access.specs.Level.{level_number}
use Rattle.access.specs.declared.Access.TheVariants.{Keyed}
use Rattle.access.specs.declared.Level.{Level}
use Rattle.control.specs.Control.{command_at, read_control, control_content}
use Rattle.session.specs.Keys.{key_for, key_bytes}
use Rattle.session.specs.Session.{connection_there}
use Rattle.envelope.specs.Blocks.{outside, Seals, blocks_in, used_again}
use Rattle.envelope.specs.Characteristic.{characteristic_image}
use Rattle.bridge.specs.Place.{place_from}
use Rattle.bridge.specs.Content.{command_answer_content}
use Rattle.bridge.specs.Characteristic.{characteristic_opened, characteristic_work_after}
use Rattle.bridge.specs.declared.Link.{Link}

-- key and connection are there, the packet nonce is none of those that the connection remembers and has 3 bytes, the validation key has 4, and the reader
-- accepts the packet from that level
pub record SealablePacket (k : Link) (level : Level) (pn packet : List ℕ) : Type 0 where
  pub key : is_some (key_for k.keys k.mode level) ≡ true
  pub connection : connection_there k.connection ≡ true
  pub differs : used_again k.connection.memory pn ≡ false
  pub three : length pn ≡ 3
  pub four : length k.connection.validation ≡ 4
  pub most : length packet ≤ 492
  pub read : read_control packet k.mode (Keyed level) ≡ Ok (command_at packet)

-- the packet sealed with the level's key, the connection's nonce and its validation key
abbrev pub packet_sealed : Link → Level → List ℕ → List ℕ → List ℕ
packet_sealed k level pn packet =
    characteristic_image (key_bytes (key_for k.keys k.mode level)) pn k.connection.nonce (level_number level) k.connection.validation packet

pub record OpensAgain (k : Link) (level : Level) (pn packet : List ℕ) : Type 0 where
  -- given room, the sealer writes it
  pub writes :
      (room after : List ℕ) (answer : Result ℕ Refusal) → length (packet_sealed k level pn packet) ≤ length room
      → Seals (key_for k.keys k.mode level) (outside 5 492 (length packet)) (packet_sealed k level pn packet) room answer after
      → (answer ≡ Ok (length (packet_sealed k level pn packet))) × (take (length (packet_sealed k level pn packet)) after ≡ packet_sealed k level pn packet)
  -- given a work buffer for its blocks, the opener accepts it as that command
  pub answer :
      (work : List ℕ) → 16 * blocks_in (packet_sealed k level pn packet) ≤ length work
      → (characteristic_opened k (length work) (packet_sealed k level pn packet)).answer ≡ Ok (command_at packet, place_from true 9 (4 + length packet))
  -- with the fields and bytes that the table reads from the packet
  pub content :
      (work : List ℕ) → 16 * blocks_in (packet_sealed k level pn packet) ≤ length work
      → command_answer_content (characteristic_opened k (length work) (packet_sealed k level pn packet)).answer (packet_sealed k level pn packet)
      (characteristic_work_after k (packet_sealed k level pn packet) work)
      ≡ accepted (control_content packet)
