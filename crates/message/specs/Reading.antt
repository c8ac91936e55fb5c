-- What reading a UART message gives: data type (2), data.
use Rattle.std.specs.Prelude.{ℕ, ◌≡◌, Bool, not, ◌||◌, List, [], ◌∷◌, ◌++◌, length, drop, ltb, Result, Ok, Err}
use Rattle.wire.specs.Numbers.{num}
use Rattle.wire.specs.Rules.{Rule, ◌when◌, judge}
use Rattle.wire.specs.Content.{Judged, accepted, refused, Content, content}
use Rattle.wire.specs.Fields.{values_at, wrong_size, wrong_fields, content_by}
use Rattle.access.specs.declared.Mode.{Mode}
use Rattle.control.specs.Control.{control_rules, command_at, control_content}
use Rattle.message.specs.Message.{message_content, parts_at}
use Rattle.message.specs.Table.{Body, fields, packet, Row, type_of, plain_where_required, encrypted_where_plain_only, access_of}
use Rattle.message.specs.declared.Form.{Form}
use Rattle.message.specs.declared.forms.Allowed.{Allowed}
use Rattle.message.specs.declared.Message.{Message}
use Rattle.message.specs.declared.Message.TheVariants.{Control}
use Rattle.wire.specs.declared.refusals.Refusal.{Refusal}
use Rattle.wire.specs.Refusals.{number_of, refusing}

-- ---- the rules, in order
-- 15: plain where encryption is required; 16: encrypted where plain only
abbrev pub form_rules : Allowed → Form → Bool → List Rule
form_rules k f required = (15 when plain_where_required k f required) ∷ (16 when encrypted_where_plain_only k f) ∷ []

-- 17: message data of wrong length or field; a control packet's 18 to 24 in its stead
abbrev pub body_rules : Body → Form → Mode → List ℕ → List Rule
body_rules (fields l make) f mode d = (17 when (wrong_size l.size d || wrong_fields l d)) ∷ []
body_rules packet f mode d = control_rules d mode (access_of f)

abbrev pub type_rules : Row → Form → Bool → Mode → List ℕ → List Rule
type_rules r f required mode d = form_rules r.allowed f required ++ body_rules r.body f mode d

-- 14: data type not listed, or none there
abbrev pub message_rules : Form → Bool → Mode → List ℕ → List Rule
message_rules f required mode p =
    (14 when (ltb (length p) 2 || not (type_of (num 2 0 p)).listed)) ∷ type_rules (type_of (num 2 0 p)) f required mode (drop 2 p)

-- ---- the answer
abbrev pub message_of : Body → List ℕ → Message
message_of (fields l make) d = make (values_at l.fields 0 d) (length d)
message_of packet d = Control (command_at d)

abbrev pub message_at : List ℕ → Message
message_at p = message_of (type_of (num 2 0 p)).body (drop 2 p)

abbrev pub read_message : List ℕ → Form → Bool → Mode → Result Message Refusal
read_message p f required mode = judge refusing (message_rules f required mode p) (Ok (message_at p))

-- what the tables read from a message: its data type, each number in its fields, a control packet's command before those, and each part behind them
abbrev pub under : ℕ → Content → Content
under n c = content n (c.number ∷ c.values) c.parts

abbrev pub body_content : ℕ → Body → List ℕ → Content
body_content n (fields l make) d = content_by n l d
body_content n packet d = under n (control_content d)

abbrev pub table_content : List ℕ → Content
table_content p = body_content (num 2 0 p) (type_of (num 2 0 p)).body (drop 2 p)

-- what an answer gives of the message: accepted with a content, or refused with a number
abbrev pub message_answer : Result Message Refusal → List ℕ → Judged Content ℕ
message_answer (Ok m) p = accepted (message_content m (drop (parts_at m) (drop 2 p)))
message_answer (Err r) p = refused (number_of r)

-- the reader's promise
pub record ReadsMessage (p : List ℕ) (f : Form) (required : Bool) (mode : Mode) (r : Result Message Refusal) : Type 0 where
  pub content : message_answer r p ≡ judge refused (message_rules f required mode p) (accepted (table_content p))
  -- the answer by the cases of the enum
  pub answer : r ≡ read_message p f required mode

-- ---- what the reader's own functions give
-- data under a row, and data alone
abbrev pub read_type : Row → List ℕ → Form → Bool → Mode → Result Message Refusal
read_type r d f required mode = judge refusing ((14 when not r.listed) ∷ type_rules r f required mode d) (Ok (message_of r.body d))

abbrev pub read_body : Body → List ℕ → Form → Mode → Result Message Refusal
read_body b d f mode = judge refusing (body_rules b f mode d) (Ok (message_of b d))
