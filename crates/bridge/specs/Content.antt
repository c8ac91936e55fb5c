-- What the openers' answers give: accepted with a content, or refused with a number and its reply.
use Rattle.std.specs.Prelude.{ℕ, List, Result, Ok, Err}
use Rattle.wire.specs.Refusals.{number_of}
use Rattle.wire.specs.Content.{Judged, accepted, refused, Content}
use Rattle.control.specs.Command.{command_content}
use Rattle.message.specs.Message.{message_content}
use Rattle.bridge.specs.Reply.{Entry, entry_of, characteristic_entry_of, reply_entry}
use Rattle.bridge.specs.Place.{payload_at}
use Rattle.control.specs.declared.Command.{Command}
use Rattle.message.specs.declared.Message.{Message}
use Rattle.bridge.specs.declared.Place.{Place}
use Rattle.bridge.specs.declared.Refused.{Refused}

-- a refusal: its number, and the reply column's entry
pub record Given : Type 0 where
  pub number : ℕ
  pub reply : Entry

abbrev pub given_of : Refused → Given
given_of r = record { number = number_of r.refusal; reply = reply_entry r.reply }

-- what document 01 gives for a number, on the UART and on the characteristic
abbrev pub uart_given : ℕ → Given
uart_given n = record { number = n; reply = entry_of n }

abbrev pub characteristic_given : ℕ → Given
characteristic_given n = record { number = n; reply = characteristic_entry_of n }

-- what the openers answer: a message or a command with the place of its payload, or a refusal with its reply
abbrev pub Answer : Type 0
Answer = Result (Message × Place) Refused

abbrev pub CommandAnswer : Type 0
CommandAnswer = Result (Command × Place) Refused

-- the refusal's number, 0 where something was accepted
abbrev pub refusal_number : {A : Type 0} → Result A Refused → ℕ
refusal_number (Ok a) = 0
refusal_number (Err r) = number_of r.refusal

-- an answer, whose payload lies in the frame's payload or in the work buffer
abbrev pub answer_content : Answer → List ℕ → List ℕ → Judged Content Given
answer_content (Ok a) frame work = accepted (message_content a.0 (payload_at frame work a.1))
answer_content (Err r) frame work = refused (given_of r)

abbrev pub command_answer_content : CommandAnswer → List ℕ → List ℕ → Judged Content Given
command_answer_content (Ok a) frame work = accepted (command_content a.0 (payload_at frame work a.1))
command_answer_content (Err r) frame work = refused (given_of r)
