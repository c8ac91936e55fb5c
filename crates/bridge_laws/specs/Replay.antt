-- Document 02 §6: a sealed message that passed all of 10 to 13, opened again, is never accepted. It gets 28, or a refusal that stands before it; exactly 28
-- where length, room, key and time permit. Whatever its blocks hold, and whatever came between, as long as fewer than eight other encrypted messages
-- passed and the session nonce stayed. The statement, `ReplayRefused`; proofs/Replay.antt proves it.
use Rattle.std.specs.Prelude.{ℕ, suc, ◌<◌, ◌≡◌, Bool, true, false, ◌&&◌, List, [], ◌∷◌, get_or, eqb, is_some}
use Rattle.wire.specs.Choice.{pick}
use Rattle.wire.specs.Rules.{first_broken, among}
use Rattle.units.specs.declared.Seconds.{Seconds}
use Rattle.access.specs.declared.Mode.{Mode}
use Rattle.session.specs.Session.{valid_at}
use Rattle.session.specs.declared.Connection.{Connection}
use Rattle.session.specs.declared.Keys.{Keys}
use Rattle.session.specs.declared.Session.{Session}
use Rattle.envelope.specs.Blocks.{nonce_number}
use Rattle.session_data.specs.SessionData.{data_key, data_read}
use Rattle.bridge.specs.Content.{refusal_number}
use Rattle.bridge.specs.Opener.{admin_key, uart_pass_rules, opened}
use Rattle.bridge.specs.Characteristic.{level_key, packet_pass_rules, characteristic_opened}
use Rattle.bridge.specs.declared.Context.{Context}
use Rattle.bridge.specs.declared.Link.{Link}
use Rattle.bridge.specs.declared.Opened.{Opened}
use Rattle.bridge.specs.declared.OpenedCommand.{OpenedCommand}
use Rattle.bridge_laws.specs.Accepts.{is_accepted, is_command, AcceptsBlocks}

-- ---- several calls, each with the session that came back from the last
-- the session after them
abbrev pub after : {S C : Type 0} → (S → C → S) → S → List C → S
after step s [] = s
after step s (c ∷ cs) = after step (step s c) cs

-- how many of them are encrypted messages that passed
abbrev pub passed_in : {S C : Type 0} → (S → C → S) → (S → C → Bool) → S → List C → ℕ
passed_in step passes s [] = 0
passed_in step passes s (c ∷ cs) = pick (passes s c) (suc (passed_in step passes (step s c) cs)) (passed_in step passes (step s c) cs)

-- the session nonce stays
abbrev pub NonceStays : {S C : Type 0} → (S → C → S) → (S → List ℕ) → S → List C → Type 0
NonceStays step nonce s [] = Unit {0}
NonceStays step nonce s (c ∷ cs) = (nonce (step s c) ≡ nonce s) × NonceStays step nonce (step s c) cs

-- ---- frames
-- what one opening is given beside the session
pub record FrameCall : Type 0 where
  pub time : Seconds
  pub keys : Keys
  pub mode : Mode
  pub required : Bool
  pub room : ℕ
  pub major : ℕ
  pub wrapper : ℕ
  pub payload : List ℕ

abbrev pub context_for : Session → FrameCall → Context
context_for s c = record { session = s; time = c.time; keys = c.keys; mode = c.mode; required = c.required }

abbrev pub opened_frame : Session → FrameCall → Opened
opened_frame s c = opened (context_for s c) c.room c.major c.wrapper c.payload

abbrev pub frame_step : Session → FrameCall → Session
frame_step s c = (opened_frame s c).session

-- an encrypted message that passes all of 10 to 13
abbrev pub frame_passes : Session → FrameCall → Bool
frame_passes s c = eqb c.wrapper 128 && eqb (first_broken (uart_pass_rules (context_for s c) c.room c.major c.wrapper c.payload)) 0

-- such a frame is refused, and the session s stays
pub record FrameRefused (s : Session) (c : FrameCall) : Type 0 where
  pub never : is_accepted (opened_frame s c).answer ≡ false
  pub number : among (refusal_number (opened_frame s c).answer) (7 ∷ 25 ∷ 10 ∷ 9 ∷ 28 ∷ []) ≡ true
  pub exactly :
      AcceptsBlocks c.payload c.room → get_or c.payload 3 0 ≡ 0 → is_some (admin_key (context_for s c)) ≡ true → valid_at s c.time ≡ true
      → refusal_number (opened_frame s c).answer ≡ 28
  pub session : (opened_frame s c).session ≡ s

-- ---- characteristic packets
pub record PacketCall : Type 0 where
  pub keys : Keys
  pub mode : Mode
  pub room : ℕ
  pub packet : List ℕ

abbrev pub link_for : Connection → PacketCall → Link
link_for c q = record { connection = c; keys = q.keys; mode = q.mode }

abbrev pub opened_packet : Connection → PacketCall → OpenedCommand
opened_packet c q = characteristic_opened (link_for c q) q.room q.packet

abbrev pub packet_passes : Connection → PacketCall → Bool
packet_passes c q = eqb (first_broken (packet_pass_rules (link_for c q) q.room q.packet)) 0

-- what may come between: a packet is opened, or a block of session data is read
pub data ConnectionCall : Type 0 where
  opens : PacketCall → ConnectionCall
  reads : Keys → Mode → List ℕ → ConnectionCall

abbrev pub connection_step : Connection → ConnectionCall → Connection
connection_step c (opens q) = (opened_packet c q).connection
connection_step c (reads keys mode block) = (data_read (data_key keys mode) c block).connection

abbrev pub connection_passes : Connection → ConnectionCall → Bool
connection_passes c (opens q) = packet_passes c q
connection_passes c (reads keys mode block) = false

-- such a packet is refused, and the connection session c stays
pub record PacketRefused (c : Connection) (q : PacketCall) : Type 0 where
  pub never : is_command (opened_packet c q).answer ≡ false
  pub number : among (refusal_number (opened_packet c q).answer) (7 ∷ 25 ∷ 10 ∷ 28 ∷ []) ≡ true
  pub exactly :
      AcceptsBlocks q.packet q.room → is_some (level_key (link_for c q) q.packet) ≡ true → refusal_number (opened_packet c q).answer ≡ 28
  pub connection : (opened_packet c q).connection ≡ c

-- ---- the statement
pub record ReplayRefused : Type 0 where
  -- what was opened past 13 has passed: accepted, or refused by 14 to 24, of a packet by 19 to 24
  pub past :
      (s : Session) (c : FrameCall) → c.wrapper ≡ 128
      → among (refusal_number (opened_frame s c).answer) (0 ∷ 14 ∷ 15 ∷ 16 ∷ 17 ∷ 18 ∷ 19 ∷ 20 ∷ 21 ∷ 22 ∷ 23 ∷ 24 ∷ []) ≡ true
      → frame_passes s c ≡ true
  pub past_packet :
      (c : Connection) (q : PacketCall) → among (refusal_number (opened_packet c q).answer) (0 ∷ 19 ∷ 20 ∷ 21 ∷ 22 ∷ 23 ∷ 24 ∷ []) ≡ true
      → packet_passes c q ≡ true
  -- a frame, and another with its packet nonce
  pub frame :
      (s : Session) (first again : FrameCall) (between : List FrameCall) → frame_passes s first ≡ true
      → NonceStays frame_step (λ t. t.nonce) (frame_step s first) between → passed_in frame_step frame_passes (frame_step s first) between < 8
      → again.major ≡ 1 → again.wrapper ≡ 128 → nonce_number again.payload ≡ nonce_number first.payload
      → FrameRefused (after frame_step (frame_step s first) between) again
  -- a packet, and another with its packet nonce, from whatever level
  pub packet :
      (c : Connection) (first again : PacketCall) (between : List ConnectionCall) → packet_passes c first ≡ true
      → NonceStays connection_step (λ d. d.nonce) (connection_step c (opens first)) between
      → passed_in connection_step connection_passes (connection_step c (opens first)) between < 8
      → nonce_number again.packet ≡ nonce_number first.packet
      → PacketRefused (after connection_step (connection_step c (opens first)) between) again
