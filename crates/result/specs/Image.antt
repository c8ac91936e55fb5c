-- What the writers of result packets write, what they refuse, and that it is read back; proofs/Trip.antt proves the last.
use Rattle.std.specs.Prelude.{ℕ, ◌≡◌, Bool, not, ◌||◌, List, [], ◌∷◌, ◌++◌, length, ltb, Ok}
use Rattle.wire.specs.Numbers.{le}
use Rattle.wire.specs.Content.{accepted, content}
use Rattle.wire.specs.Parts.{part, part_of}
use Rattle.wire.specs.Fields.{wrong_size, past, body_of, unreadable}
use Rattle.result.specs.Result.{done, code_means, is_done, payload_for, payload_of, payload_content, resulting, result_answer, outcome_of, read_result}
use Rattle.result.specs.declared.ResultPacket.{ResultPacket}
use Rattle.result.specs.declared.PresenceResult.{PresenceResult}
use Rattle.result.specs.declared.UptimeResult.{UptimeResult}
use Rattle.result.specs.declared.ResultRead.{ResultRead}
use Rattle.result.specs.declared.ResultRead.TheVariants.{Presence, Uptime}

-- protocol, command type, result code, size, payload
abbrev pub result_bytes : ℕ → ℕ → List ℕ → List ℕ
result_bytes n code q = 5 ∷ (le 2 n ++ (le 2 code ++ (le 2 (length q) ++ q)))

-- ---- a payload that is a part of bytes
-- 17: past its bytes, of a length that its reader would refuse, or longer than the size field counts
abbrev pub result_bad : ResultPacket → List ℕ → Bool
result_bad r s =
    past s r.payload || wrong_size (payload_of r.command r.code).size (part_of s r.payload)
    || ltb 65535 (length (part_of s r.payload))

abbrev pub result_image : ResultPacket → List ℕ → List ℕ
result_image r s = result_bytes r.command r.code (part_of s r.payload)

-- ---- a payload of fields
-- 17: a code that does not mean done, or numbers that the table's reader would refuse
abbrev pub fields_bad : ℕ → ℕ → List ℕ → Bool
fields_bad n code vs = not (is_done (code_means code)) || unreadable (payload_for done n) vs [] [] []

abbrev pub fields_image : ℕ → ℕ → List ℕ → List ℕ
fields_image n code vs = result_bytes n code (body_of (payload_for done n) vs [] [])

abbrev pub presence_bad : PresenceResult → Bool
presence_bad r = fields_bad 72 r.code r.masks

abbrev pub presence_image : PresenceResult → List ℕ
presence_image r = fields_image 72 r.code r.masks

abbrev pub uptime_bad : UptimeResult → Bool
uptime_bad r = fields_bad 80 r.code (r.uptime.0 ∷ [])

abbrev pub uptime_image : UptimeResult → List ℕ
uptime_image r = fields_image 80 r.code (r.uptime.0 ∷ [])

-- ---- reading what was written gives what it holds
-- a payload's bytes, now a part of the packet
abbrev pub moved : ResultPacket → ResultPacket
moved r = record { command = r.command; code = r.code; payload = part 7 r.payload.len }

pub record ReadsBack (r : ResultPacket) (s p : List ℕ) : Type 0 where
  pub content : result_answer (read_result p) p ≡ accepted (payload_content r.command r.code (part_of s r.payload))
  -- the answer by the cases of the enum
  pub answer : read_result p ≡ Ok (outcome_of (moved r) (part_of s r.payload))

-- fields: the command's number, the code and each number, and the answer that was given
pub record FieldsBack (n code : ℕ) (vs : List ℕ) (given : ResultRead) (p : List ℕ) : Type 0 where
  pub content : result_answer (read_result p) p ≡ accepted (resulting done code (content n vs []))
  -- the answer by the cases of the enum
  pub answer : read_result p ≡ Ok given

abbrev pub PresenceBack : PresenceResult → List ℕ → Type 0
PresenceBack r p = FieldsBack 72 r.code r.masks (Presence r) p

abbrev pub UptimeBack : UptimeResult → List ℕ → Type 0
UptimeBack r p = FieldsBack 80 r.code (r.uptime.0 ∷ []) (Uptime r) p
