-- What reading a control packet gives: protocol (must be 5), command type (2), size (2), payload.
use Rattle.std.specs.Prelude.{ℕ, ◌+◌, ◌≡◌, not, List, [], ◌∷◌, ◌++◌, length, get_or, drop, eqb, Result, Ok, Err}
use Rattle.wire.specs.Numbers.{num}
use Rattle.wire.specs.Rules.{Rule, ◌when◌, judge}
use Rattle.wire.specs.Content.{Judged, accepted, refused, Content}
use Rattle.wire.specs.Refusals.{number_of, refusing}
use Rattle.wire.specs.declared.refusals.Refusal.{Refusal}
use Rattle.wire.specs.Fields.{Layout, values_at, wrong_size, wrong_fields, content_by}
use Rattle.access.specs.declared.Mode.{Mode}
use Rattle.access.specs.declared.Access.{Access}
use Rattle.control.specs.Command.{command_content}
use Rattle.control.specs.Table.{Row, none, row_of, in_mode, has_mark}
use Rattle.control.specs.declared.marks.Marks.{Marks}
use Rattle.control.specs.declared.Command.{Command}

-- ---- the rules, in order
-- 18: length not 5 + size
abbrev pub length_rules : List ℕ → List Rule
length_rules p = (18 when not (eqb (length p) (5 + num 2 3 p))) ∷ []

-- 21: no mark for this mode; 22: no mark for this level
abbrev pub mark_rules : Marks → Mode → Access → List Rule
mark_rules k m a = (21 when not (in_mode m k)) ∷ (22 when not (has_mark a k)) ∷ []

-- 23: payload length; 24: payload field
abbrev pub payload_rules : Layout → List ℕ → List Rule
payload_rules l q = (23 when wrong_size l.size q) ∷ (24 when wrong_fields l q) ∷ []

-- 20: command not listed; then its row's
abbrev pub row_rules : Row → List ℕ → Mode → Access → List Rule
row_rules r q m a = (20 when not r.listed) ∷ (mark_rules r.marked m a ++ payload_rules r.payload q)

-- 19: protocol not 5
abbrev pub command_rules : List ℕ → Mode → Access → List Rule
command_rules p m a = (19 when not (eqb (get_or p 0 0) 5)) ∷ row_rules (row_of (num 2 1 p)) (drop 5 p) m a

abbrev pub control_rules : List ℕ → Mode → Access → List Rule
control_rules p m a = length_rules p ++ command_rules p m a

-- ---- the answer
-- a row's command, of a payload
abbrev pub command_of : Row → List ℕ → Command
command_of r q = r.make (values_at r.payload.fields 0 q) (length q)

-- the command that a packet holds
abbrev pub command_at : List ℕ → Command
command_at p = command_of (row_of (num 2 1 p)) (drop 5 p)

abbrev pub read_control : List ℕ → Mode → Access → Result Command Refusal
read_control p m a = judge refusing (control_rules p m a) (Ok (command_at p))

-- what the table reads from a packet
abbrev pub control_content : List ℕ → Content
control_content p = content_by (num 2 1 p) (row_of (num 2 1 p)).payload (drop 5 p)

-- what an answer gives of the packet: accepted with a content, or refused with a number
abbrev pub control_answer : Result Command Refusal → List ℕ → Judged Content ℕ
control_answer (Ok c) p = accepted (command_content c (drop 5 p))
control_answer (Err r) p = refused (number_of r)

-- the reader's promise
pub record ReadsControl (p : List ℕ) (m : Mode) (a : Access) (r : Result Command Refusal) : Type 0 where
  pub content : control_answer r p ≡ judge refused (control_rules p m a) (accepted (control_content p))
  -- the answer by the cases of the enum
  pub answer : r ≡ read_control p m a

-- ---- what the reader's own functions give
-- a packet's protocol, command type and payload, whatever its size field
abbrev pub read_command : List ℕ → Mode → Access → Result Command Refusal
read_command p m a = judge refusing (command_rules p m a) (Ok (command_at p))

-- a row's command alone, and a payload alone
abbrev pub read_row : Row → List ℕ → Mode → Access → Result Command Refusal
read_row r q m a = judge refusing (row_rules r q m a) (Ok (command_of r q))

abbrev pub read_payload : Row → List ℕ → Result Command Refusal
read_payload r q = judge refusing (payload_rules r.payload q) (Ok (command_of r q))

-- no payload
abbrev pub read_none : Command → List ℕ → Result Command Refusal
read_none c q = judge refusing (payload_rules none q) (Ok c)
