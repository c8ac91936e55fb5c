-- Reading what was written gives the message back: the statement; proofs/Trip.antt proves it.
use Rattle.std.specs.Prelude.{ℕ, ◌≡◌, Bool, List, [], ◌++◌, drop, Ok}
use Rattle.wire.specs.Rules.{Rule}
use Rattle.access.specs.declared.Mode.{Mode}
use Rattle.control.specs.Control.{mark_rules}
use Rattle.control_write.specs.Image.{row_for}
use Rattle.message.specs.Message.{message_type, message_content, parts_at}
use Rattle.message.specs.Table.{type_of, access_of}
use Rattle.message.specs.Reading.{form_rules, message_at, read_message}
use Rattle.message.specs.declared.Form.{Form}
use Rattle.message.specs.declared.Message.{Message}
use Rattle.message_write.specs.Image.{if_control}

-- what the writer does not judge: 15 and 16, and a command's 21 and 22
abbrev pub permit_rules : Message → Form → Bool → Mode → List Rule
permit_rules m f required mode =
    form_rules (type_of (message_type m)).allowed f required ++ if_control m (λ c. mark_rules (row_for c).marked mode (access_of f)) []

-- a message's bytes are read, and what is read holds what the written message holds: data type, values, and each part's bytes
pub record ReadsBack (m : Message) (s p : List ℕ) (f : Form) (required : Bool) (mode : Mode) : Type 0 where
  pub content : message_content (message_at p) (drop (parts_at (message_at p)) (drop 2 p)) ≡ message_content m s
  pub answer : read_message p f required mode ≡ Ok (message_at p)
