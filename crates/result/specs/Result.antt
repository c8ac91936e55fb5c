-- Result packets ('Messages', last paragraph, and document 02 §7): protocol, command type (2), result code (2), size (2), payload of exactly that size.
use Rattle.std.specs.Prelude.{ℕ, ◌+◌, ◌-◌, ◌≡◌, Bool, true, false, not, ◌||◌, List, [], ◌∷◌, length, get_or, drop, eqb, Result, Ok, Err}
use Rattle.wire.specs.Choice.{pick}
use Rattle.wire.specs.Numbers.{num}
use Rattle.wire.specs.Lookup.{lookup}
use Rattle.wire.specs.Rules.{Rule, ◌when◌, judge}
use Rattle.wire.specs.Refusals.{number_of, refusing}
use Rattle.wire.specs.declared.refusals.Refusal.{Refusal}
use Rattle.wire.specs.Content.{Judged, accepted, refused, Content, content}
use Rattle.wire.specs.Parts.{part, part_of}
use Rattle.wire.specs.Fields.{Field, Layout, layout, exactly, at_least, any, nothing, free, wrong_size, values_at, content_by}
use Rattle.result.specs.declared.ResultPacket.{ResultPacket}
use Rattle.result.specs.declared.ResultRead.{ResultRead}
use Rattle.result.specs.declared.ResultRead.TheVariants.{Done, Presence, Uptime, Waiting, Failed}

-- ---- what came of a command
pub data Outcome : Type 0 where
  done : Outcome
  waiting : Outcome
  failed : Outcome

-- codes 0 and 2 mean done, 1 means waiting, every other code failed
abbrev pub code_means : ℕ → Outcome
code_means code = pick (eqb code 0 || eqb code 2) done (pick (eqb code 1) waiting failed)

abbrev pub is_done : Outcome → Bool
is_done done = true
is_done waiting = false
is_done failed = false

-- ---- payloads
-- what a done result of a command carries
pub record Row : Type 0 where
  pub command : ℕ
  pub payload : Layout
  -- the answer, of the result and the numbers in the payload's fields
  pub make : ResultPacket → List ℕ → ResultRead

abbrev pub row : ℕ → Layout → (ResultPacket → List ℕ → ResultRead) → Row
row n l f = record { command = n; payload = l; make = f }

-- eight masks of 8 bytes
abbrev pub masks : List Field
masks = any 8 ∷ any 8 ∷ any 8 ∷ any 8 ∷ any 8 ∷ any 8 ∷ any 8 ∷ any 8 ∷ []

abbrev pub masks_of : List ℕ → List ℕ
masks_of v =
    get_or v 0 0 ∷ get_or v 1 0 ∷ get_or v 2 0 ∷ get_or v 3 0 ∷ get_or v 4 0 ∷ get_or v 5 0 ∷ get_or v 6 0 ∷ get_or v 7 0 ∷ []

-- get presence: room masks
abbrev pub presence_row : Row
presence_row = row 72 (layout (exactly 64) masks nothing) (λ r v. Presence (record { code = r.code; masks = masks_of v }))

-- get uptime: seconds since boot
abbrev pub uptime_row : Row
uptime_row = row 80 (layout (exactly 4) (any 4 ∷ []) nothing) (λ r v. Uptime (record { code = r.code; uptime = record { 0 = get_or v 0 0 } }))

abbrev pub table : List Row
table = presence_row ∷ uptime_row ∷ []

-- any bytes
abbrev pub anything : Layout
anything = layout (at_least 0) [] free

-- every other command, whatever its number
abbrev pub other_row : Row
other_row = row 0 anything (λ r v. Done r)

abbrev pub row_of : ℕ → Row
row_of n = lookup (λ (w : Row). w.command) (λ (w : Row). w) other_row table n

-- the payload of a result: by the table where it is done, else anything
abbrev pub payload_for : Outcome → ℕ → Layout
payload_for done n = (row_of n).payload
payload_for waiting n = anything
payload_for failed n = anything

abbrev pub payload_of : ℕ → ℕ → Layout
payload_of n code = payload_for (code_means code) n

-- ---- reading
-- 23: payload length
abbrev pub payload_rules : ℕ → ℕ → List ℕ → List Rule
payload_rules n code q = (23 when wrong_size (payload_of n code).size q) ∷ []

-- 18: length not 7 + size; 19: protocol not 5; then the payload's
abbrev pub result_rules : List ℕ → List Rule
result_rules p =
    (18 when not (eqb (length p) (7 + num 2 5 p))) ∷ (19 when not (eqb (get_or p 0 0) 5)) ∷ payload_rules (num 2 1 p) (num 2 3 p) (drop 7 p)

-- what a result holds: what came of the command, the result code; the command's number, the numbers in the payload's fields, the bytes of its part
pub record ResultContent : Type 0 where
  pub outcome : Outcome
  pub code : ℕ
  pub packet : Content

abbrev pub resulting : Outcome → ℕ → Content → ResultContent
resulting o code c = record { outcome = o; code = code; packet = c }

-- what a payload holds, under a command's number and a code
abbrev pub payload_content : ℕ → ℕ → List ℕ → ResultContent
payload_content n code q = resulting (code_means code) code (content_by n (payload_of n code) q)

-- what the bytes of a packet hold
abbrev pub result_content : List ℕ → ResultContent
result_content p = payload_content (num 2 1 p) (num 2 3 p) (drop 7 p)

-- a result whose payload is a part of bytes
abbrev pub part_content : Outcome → ResultPacket → List ℕ → ResultContent
part_content o r s = resulting o r.code (content r.command [] (part_of s r.payload ∷ []))

-- what a result that was read holds
abbrev pub read_content : ResultRead → List ℕ → ResultContent
read_content (Done r) p = part_content done r p
read_content (Presence r) p = resulting done r.code (content 72 r.masks [])
read_content (Uptime r) p = resulting done r.code (content 80 (r.uptime.0 ∷ []) [])
read_content (Waiting r) p = part_content waiting r p
read_content (Failed r) p = part_content failed r p

-- what an answer holds: accepted with a content, or refused with a number
abbrev pub result_answer : Result ResultRead Refusal → List ℕ → Judged ResultContent ℕ
result_answer (Ok r) p = accepted (read_content r p)
result_answer (Err r) p = refused (number_of r)

-- a row's answer, of a result and its payload's bytes
abbrev pub made : Row → ResultPacket → List ℕ → ResultRead
made w r q = w.make r (values_at w.payload.fields 0 q)

-- the enum's case for an outcome
abbrev pub case_for : Outcome → ResultPacket → List ℕ → ResultRead
case_for done r q = made (row_of r.command) r q
case_for waiting r q = Waiting r
case_for failed r q = Failed r

-- by the result's code
abbrev pub outcome_of : ResultPacket → List ℕ → ResultRead
outcome_of r q = case_for (code_means r.code) r q

-- the result that a packet holds, its payload a part of the packet
abbrev pub result_at : List ℕ → ResultPacket
result_at p = record { command = num 2 1 p; code = num 2 3 p; payload = part 7 (length p - 7) }

abbrev pub read_result : List ℕ → Result ResultRead Refusal
read_result p = judge refusing (result_rules p) (Ok (outcome_of (result_at p) (drop 7 p)))

-- the reader's promise
pub record ReadsResult (p : List ℕ) (r : Result ResultRead Refusal) : Type 0 where
  pub content : result_answer r p ≡ judge refused (result_rules p) (accepted (result_content p))
  -- the answer by the cases of the enum
  pub answer : r ≡ read_result p

-- ---- what the reader's own function gives
-- a result and its payload's bytes, whatever its size field
abbrev pub read_payload : ResultPacket → List ℕ → Result ResultRead Refusal
read_payload r q = judge refusing (payload_rules r.command r.code q) (Ok (outcome_of r q))
