-- The opener of a characteristic packet: 7, 25, 10, 8, 28, 11, 18, 13, 19 to 24.
use Rattle.std.specs.Prelude.{ℕ, ◌+◌, ◌*◌, ◌≡◌, true, not, List, [], ◌∷◌, ◌++◌, length, get_or, drop, replicate, Option, Some, None, is_some, Ok, Err}
use Rattle.wire.specs.Rules.{Rule, ◌when◌, judge}
use Rattle.wire.specs.Refusals.{refusal_of}
use Rattle.wire.specs.Content.{accepted, refused}
use Rattle.access.specs.Level.{level_of}
use Rattle.access.specs.declared.Access.{Access}
use Rattle.access.specs.declared.Access.TheVariants.{Keyed, Unknown}
use Rattle.access.specs.declared.Level.{Level}
use Rattle.control.specs.Control.{command_rules, command_at, control_content}
use Rattle.session.specs.Keys.{key_bytes, key_for_number}
use Rattle.session.specs.Session.{connection_there, connection_remembering}
use Rattle.session.specs.declared.Connection.{Connection}
use Rattle.envelope.specs.Blocks.{blocks_in, deciphered, nonce_number, nonce_rule}
use Rattle.envelope.specs.Characteristic.{characteristic_rules, packet_in}
use Rattle.bridge.specs.Opener.{block_rules}
use Rattle.bridge.specs.Reply.{characteristic_refused}
use Rattle.bridge.specs.Place.{place_from}
use Rattle.bridge.specs.Content.{CommandAnswer, characteristic_given, command_answer_content}
use Rattle.bridge.specs.declared.Link.{Link}
use Rattle.bridge.specs.declared.OpenedCommand.{OpenedCommand}

-- the key of the level that a packet names
abbrev pub level_key : Link → List ℕ → Option (List ℕ)
level_key k p = key_for_number k.keys k.mode (get_or p 3 0)

-- the access of the level that was read; a number that no level has gets one without a mark
abbrev pub access_for : Option Level → Access
access_for (Some l) = Keyed l
access_for None = Unknown

-- ---- the rules
-- 10: no key held for the level in this mode; 8: no connection session; 28: a packet nonce used again
unfoldable pub connection_rules : Link → List ℕ → List Rule
connection_rules k p =
    (10 when not (is_some (level_key k p)))
    ∷ (8 when not (connection_there k.connection))
    ∷ nonce_rule k.connection.memory p
    ∷ []

-- a packet before it is deciphered: 7, 25, 10, 8, 28
unfoldable pub packet_entry_rules : Link → ℕ → List ℕ → List Rule
packet_entry_rules k room p = block_rules p room ++ connection_rules k p

-- its blocks deciphered
unfoldable pub packet_text : Link → List ℕ → List ℕ
packet_text k p = deciphered (key_bytes (level_key k p)) k.connection.nonce p

-- of the deciphered blocks: 11 by the connection's validation key, 18, 13; then 19 to 24
unfoldable pub packet_text_rules : Link → ℕ → List ℕ → List Rule
packet_text_rules k level text =
    characteristic_rules k.connection.validation text
    ++ command_rules (packet_in text) k.mode (access_for (level_of level))

-- the rules of a packet up to 13: where none of them is broken, its packet nonce is remembered
unfoldable pub packet_pass_rules : Link → ℕ → List ℕ → List Rule
packet_pass_rules k room p = packet_entry_rules k room p ++ characteristic_rules k.connection.validation (packet_text k p)

-- all rules of a packet
unfoldable pub packet_open_rules : Link → ℕ → List ℕ → List Rule
packet_open_rules k room p = packet_entry_rules k room p ++ packet_text_rules k (get_or p 3 0) (packet_text k p)

-- ---- the answer, and the work buffer after it
-- a packet stands behind the validation key, its payload behind its own five bytes
abbrev pub accepted_command : List ℕ → CommandAnswer
accepted_command text = Ok (command_at (packet_in text), place_from true 9 (4 + length (packet_in text)))

unfoldable pub characteristic_answer_of : Link → ℕ → List ℕ → CommandAnswer
characteristic_answer_of k room p = judge (λ n. Err (characteristic_refused (refusal_of n))) (packet_open_rules k room p) (accepted_command (packet_text k p))

unfoldable pub characteristic_work_after : Link → List ℕ → List ℕ → List ℕ
characteristic_work_after k p work =
    judge (λ n. work) (packet_entry_rules k (length work) p)
    (judge (λ n. replicate (16 * blocks_in p) 0) (packet_text_rules k (get_or p 3 0) (packet_text k p)) (packet_text k p) ++ drop (16 * blocks_in p) work)

-- ---- the connection session after it: where the packet passed all of 10 to 13, also when 19 to 24 refuse it later, its packet nonce is remembered
unfoldable pub connection_after : Link → ℕ → List ℕ → Connection
connection_after k room p =
    judge (λ n. k.connection) (packet_pass_rules k room p) (connection_remembering k.connection (nonce_number p))

unfoldable pub characteristic_opened : Link → ℕ → List ℕ → OpenedCommand
characteristic_opened k room p = record { answer = characteristic_answer_of k room p; connection = connection_after k room p }

-- ---- the opener's promise
pub record OpensPacket (k : Link) (p work : List ℕ) (r : OpenedCommand) (after : List ℕ) : Type 0 where
  -- accepted with what the table reads from the control packet, or refused with the first broken rule's number and its reply
  pub content :
      command_answer_content r.answer p after
      ≡ judge (λ n. refused (characteristic_given n)) (packet_open_rules k (length work) p) (accepted (control_content (packet_in (packet_text k p))))
  -- the connection session after it, and the answer by the cases of the enum
  pub opens : r ≡ characteristic_opened k (length work) p
  pub leaves : after ≡ characteristic_work_after k p work
