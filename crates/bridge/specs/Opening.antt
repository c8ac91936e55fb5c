-- How the code splits an opening, and what its parts come to. The laws in proofs/Opening.antt and Commands.antt put them together.
use Rattle.std.specs.Prelude.{ℕ, ◌+◌, ◌*◌, Bool, true, false, List, [], ◌++◌, length, drop, replicate, eqb, Result, Ok, Err}
use Rattle.wire.specs.Choice.{pick}
use Rattle.wire.specs.Parts.{part, part_of}
use Rattle.wire.specs.Refusals.{refusal_of}
use Rattle.wire.specs.Rules.{Rule, judge}
use Rattle.wire.specs.declared.refusals.Refusal.{Refusal}
use Rattle.message.specs.Message.{parts_at}
use Rattle.message.specs.Reading.{message_at}
use Rattle.message.specs.declared.Message.{Message}
use Rattle.control.specs.declared.Command.{Command}
use Rattle.session.specs.Session.{session_remembering, connection_remembering}
use Rattle.session.specs.declared.Session.{Session}
use Rattle.session.specs.declared.Connection.{Connection}
use Rattle.envelope.specs.Blocks.{blocks_in, nonce_number, cleared}
use Rattle.envelope.specs.Sealed.{late_rules, message_in}
use Rattle.envelope.specs.Characteristic.{characteristic_rules}
use Rattle.bridge.specs.Reply.{uart_refused, characteristic_refused}
use Rattle.bridge.specs.Content.{Answer, CommandAnswer}
use Rattle.bridge.specs.Place.{place_from}
use Rattle.bridge.specs.Opener.{head_rules, plain_rules, uart_entry_rules, uart_text_rules, uart_text, accepted_message, session_by}
use Rattle.bridge.specs.Characteristic.{accepted_command, packet_text_rules}
use Rattle.bridge.specs.declared.Refused.{Refused}
use Rattle.bridge.specs.declared.Context.{Context}
use Rattle.bridge.specs.declared.Link.{Link}
use Rattle.bridge.specs.declared.Opened.{Opened}
use Rattle.bridge.specs.declared.OpenedCommand.{OpenedCommand}

abbrev pub refused_answer : ℕ → Answer
refused_answer n = Err (uart_refused (refusal_of n))

-- the answer by what a message was read as: where it begins, and where it ends
abbrev pub answer_by : Bool → ℕ → ℕ → Result Message Refusal → Answer
answer_by inWork start end (Ok m) = Ok (m, place_from inWork (start + (2 + parts_at m)) end)
answer_by inWork start end (Err r) = Err (uart_refused r)

abbrev pub opened_as : Answer → Session → Opened
opened_as a s = record { answer = a; session = s }

-- the rules before the cipher runs: of an encrypted message all up to 28
unfoldable pub frame_entry_rules : Context → ℕ → ℕ → ℕ → List ℕ → List Rule
frame_entry_rules g room major wrapper p = head_rules major wrapper ++ pick (eqb wrapper 128) (uart_entry_rules g room p) []

-- the blocks that a payload was deciphered to, at the front of the work buffer
abbrev pub text_in : List ℕ → List ℕ → List ℕ
text_in p work = part_of work (part 0 (16 * blocks_in p))

-- a plain message: the answer, and the session after it
unfoldable pub plain_answer : Context → List ℕ → Answer
plain_answer g p = judge refused_answer (plain_rules g p) (accepted_message false 0 p)

unfoldable pub plain_session : Context → List ℕ → Session
plain_session g p = judge (λ n. g.session) (plain_rules g p) (session_by g (message_at p))

abbrev pub plain_opened : Context → List ℕ → Opened
plain_opened g p = opened_as (plain_answer g p) (plain_session g p)

-- that session as the code has it, by the answer
abbrev pub session_by_answer : Context → Answer → Session
session_by_answer g (Ok a) = session_by g a.0
session_by_answer g (Err r) = g.session

-- what an encrypted message deciphered to, with the number of its packet nonce
unfoldable pub text_answer : Context → List ℕ → Answer
text_answer g text = judge refused_answer (uart_text_rules g text) (accepted_message true 6 (message_in text))

unfoldable pub text_session : Context → ℕ → List ℕ → Session
text_session g number text = judge (λ n. g.session) (late_rules text) (session_remembering g.session number)

abbrev pub text_opened : Context → ℕ → List ℕ → Opened
text_opened g number text = opened_as (text_answer g text) (text_session g number text)

-- an encrypted message, all of it: judged, deciphered, and judged again
unfoldable pub sealed_answer : Context → ℕ → List ℕ → Answer
sealed_answer g room p = judge refused_answer (uart_entry_rules g room p) (text_answer g (uart_text g p))

unfoldable pub sealed_session : Context → ℕ → List ℕ → Session
sealed_session g room p = judge (λ n. g.session) (uart_entry_rules g room p) (text_session g (nonce_number p) (uart_text g p))

abbrev pub sealed_opened : Context → ℕ → List ℕ → Opened
sealed_opened g room p = opened_as (sealed_answer g room p) (sealed_session g room p)

-- what is left of n blocks by the rules of what they deciphered to, before the bytes that stay
abbrev pub blocks_after : ℕ → List Rule → List ℕ → List ℕ → List ℕ
blocks_after n rules text work = judge (λ k. replicate (16 * n) 0) rules text ++ drop (16 * n) work

unfoldable pub sealed_work : Context → List ℕ → List ℕ → List ℕ
sealed_work g p work =
    judge (λ n. work) (uart_entry_rules g (length work) p) (blocks_after (blocks_in p) (uart_text_rules g (uart_text g p)) (uart_text g p) work)

-- what an answer leaves of a work buffer whose first n bytes were deciphered
abbrev pub work_by : {A : Type 0} → ℕ → List ℕ → Result A Refused → List ℕ
work_by n work (Ok a) = work
work_by n work (Err r) = cleared n work

-- ---- a characteristic packet
abbrev pub refused_command : ℕ → CommandAnswer
refused_command n = Err (characteristic_refused (refusal_of n))

-- a command by what a packet was read as: where it ends, behind the validation key
abbrev pub command_answer_by : ℕ → Result Command Refusal → CommandAnswer
command_answer_by end (Ok c) = Ok (c, place_from true 9 end)
command_answer_by end (Err r) = Err (characteristic_refused r)

-- what a packet deciphered to
unfoldable pub command_text_answer : Link → ℕ → List ℕ → CommandAnswer
command_text_answer k level text = judge refused_command (packet_text_rules k level text) (accepted_command text)

-- and the connection session after it, with the number of its packet nonce
unfoldable pub text_connection : Link → ℕ → List ℕ → Connection
text_connection k number text = judge (λ n. k.connection) (characteristic_rules k.connection.validation text) (connection_remembering k.connection number)

abbrev pub opened_command_as : CommandAnswer → Connection → OpenedCommand
opened_command_as a c = record { answer = a; connection = c }

abbrev pub command_text_opened : Link → ℕ → ℕ → List ℕ → OpenedCommand
command_text_opened k level number text = opened_command_as (command_text_answer k level text) (text_connection k number text)
