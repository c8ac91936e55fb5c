-- A characteristic packet that comes in parts is first assembled and then opened. The statement; proofs/Assembled.antt proves it.
use Rattle.std.specs.Prelude.{ℕ, ◌+◌, ◌*◌, ◌-◌, ◌≤◌, ◌≡◌, true, List, length, replicate, Ok}
use Rattle.access.specs.declared.Level.{Level}
use Rattle.wire.specs.Content.{accepted}
use Rattle.control.specs.Control.{command_at, control_content}
use Rattle.envelope.specs.Blocks.{blocks_in}
use Rattle.multipart.specs.Cutting.{parts}
use Rattle.multipart.specs.Assembler.{message_of, more}
use Rattle.multipart.specs.Delivery.{after, Delivers}
use Rattle.multipart.specs.declared.Assembler.{Assembler}
use Rattle.bridge.specs.Place.{place_from}
use Rattle.bridge.specs.Content.{command_answer_content}
use Rattle.bridge.specs.Characteristic.{OpensPacket}
use Rattle.bridge.specs.declared.Link.{Link}
use Rattle.bridge.specs.declared.OpenedCommand.{OpenedCommand}
use Rattle.bridge_laws.specs.RoundTrip.{packet_sealed}

-- the message of that length in the store, after the parts
abbrev pub assembled : List (List ℕ) → Assembler → ℕ → List ℕ
assembled ds a len = message_of (after (parts ds) a).store len

pub record OpensAssembled (packet : List ℕ) (ds : List (List ℕ)) (a : Assembler) : Type 0 where
  -- the last part gives the packet, those before it nothing yet
  pub delivers : Delivers (replicate (length ds - 1) more) (parts ds) packet a
  pub same : assembled ds a (length packet) ≡ packet
  -- so what the opener promises of what was assembled it promises of the packet that was cut: the answer, the connection, the work buffer
  pub opens :
      (k : Link) (work left : List ℕ) (r : OpenedCommand) → OpensPacket k (assembled ds a (length packet)) work r left
      → OpensPacket k packet work r left

-- a packet that we sealed, in any cutting: given a work buffer for its blocks it is opened as its command, with the fields and bytes that the table reads
pub record OpensSealed (k : Link) (level : Level) (pn packet : List ℕ) (ds : List (List ℕ)) (a : Assembler) : Type 0 where
  pub delivers : Delivers (replicate (length ds - 1) more) (parts ds) (packet_sealed k level pn packet) a
  pub opens :
      (work left : List ℕ) (r : OpenedCommand) → 16 * blocks_in (packet_sealed k level pn packet) ≤ length work
      → OpensPacket k (assembled ds a (length (packet_sealed k level pn packet))) work r left
      → (r.answer ≡ Ok (command_at packet, place_from true 9 (4 + length packet)))
      × (command_answer_content r.answer (packet_sealed k level pn packet) left ≡ accepted (control_content packet))
