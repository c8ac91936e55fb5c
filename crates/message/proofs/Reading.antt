-- The message reader's rules, group by group. Assumes nothing.
use mathlib.Core.Path.{◌≡◌, sym, ap, ◌∙◌}
use Prim.Native.Nat.{ℕ}
use mathlib.Core.Bool.{Bool, true}
use mathlib.Core.List.{List}
use lib.ListN.{drop}
use Rattle.wire.specs.Numbers.{num}
use Rattle.wire.specs.Rules.{judge, first_broken}
use Rattle.wire.proofs.Rules.{judge_append, verdict_map}
use Rattle.wire.proofs.Listed.{Listed}
use Rattle.access.specs.declared.Mode.{Mode}
use Rattle.control.specs.Control.{read_control, control_rules, command_at}
use Rattle.wire.specs.declared.refusals.Refusal.{Refusal}
use Rattle.control.specs.declared.Command.{Command}
use Rattle.message.specs.Table.{Body, fields, packet, Row, type_of, access_of}
use Rattle.message.specs.Reading.{form_rules, body_rules, message_rules, message_of, read_type, read_body}
use Rattle.message.specs.declared.Form.{Form}
use Rattle.message.specs.declared.Message.TheVariants.{Control}
use Rattle.message.specs.declared.Message.{Message}
use Rattle.wire.specs.Refusals.{refusing}
use Rattle.std.specs.Prelude.{Result, Ok, Err}

-- a listed type: its form, then its data
pub type_read : (r : Row) (d : List ℕ) (f : Form) (required : Bool) (mode : Mode) {read answer : Result Message Refusal} → r.listed ≡ true
    → read ≡ read_body r.body d f mode → answer ≡ judge refusing (form_rules r.allowed f required) read → answer ≡ read_type r d f required mode
type_read r d f required mode l e h =
    h ∙ ap (judge refusing (form_rules r.allowed f required)) e
    ∙ sym (judge_append refusing (form_rules r.allowed f required) (body_rules r.body f mode d) (Ok (message_of r.body d)))
    ∙ sym (rw l)

-- the control reader's answer as a message
abbrev pub of_read : Result Command Refusal → Result Message Refusal
of_read (Ok c) = Ok (Control c)
of_read (Err r) = Err r

pub packet_read : (d : List ℕ) (f : Form) (mode : Mode) {r : Result Command Refusal} → r ≡ read_control d mode (access_of f) → of_read r ≡ read_body packet d f mode
packet_read d f mode e = ap of_read e ∙ verdict_map of_read refusing (first_broken (control_rules d mode (access_of f))) (Ok (command_at d))

-- each number that data give is a refusal's
pub body_listed : (b : Body) (f : Form) (mode : Mode) (d : List ℕ) → Listed (body_rules b f mode d)
body_listed (fields l make) f mode d = (tt, tt)
body_listed packet f mode d = (tt, (tt, (tt, (tt, (tt, (tt, (tt, tt)))))))

pub message_listed : (f : Form) (required : Bool) (mode : Mode) (p : List ℕ) → Listed (message_rules f required mode p)
message_listed f required mode p = (tt, (tt, (tt, body_listed (type_of (num 2 0 p)).body f mode (drop 2 p))))
