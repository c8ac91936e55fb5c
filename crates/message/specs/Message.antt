-- What each message holds: its data type, the numbers in its fields, and the bytes of each part behind them; a control message what its command holds.
use Rattle.std.specs.Prelude.{ℕ, List, [], ◌∷◌}
use Rattle.wire.specs.Content.{Content, content}
use Rattle.wire.specs.Fields.{each_part, parts_of}
use Rattle.wire.specs.declared.Part.{Part}
use Rattle.control.specs.Command.{command_number, command_values, command_parts}
use Rattle.message.specs.declared.Message.{Message}
use Rattle.message.specs.declared.Message.TheVariants.{Hello, SessionNonce, Heartbeat, Status, GetMac, Control, HubReply}

abbrev pub message_type : Message → ℕ
message_type (Hello flags) = 0
message_type (SessionNonce f) = 1
message_type (Heartbeat t) = 2
message_type (Status f) = 3
message_type GetMac = 4
message_type (Control c) = 10
message_type (HubReply f) = 11

-- of a control message, the command's number and its values
abbrev pub message_values : Message → List ℕ
message_values (Hello flags) = flags ∷ []
message_values (SessionNonce f) = f.timeout.0 ∷ f.nonce
message_values (Heartbeat t) = t.0 ∷ []
message_values (Status f) = f.kind ∷ f.flags ∷ []
message_values GetMac = []
message_values (Control c) = command_number c ∷ command_values c
message_values (HubReply f) = f.code ∷ []

abbrev pub message_parts : Message → List Part
message_parts (Hello flags) = []
message_parts (SessionNonce f) = []
message_parts (Heartbeat t) = []
message_parts (Status f) = f.«data» ∷ []
message_parts GetMac = []
message_parts (Control c) = command_parts c
message_parts (HubReply f) = f.«data» ∷ []

-- a message's content, its parts naming bytes of the data, of a command's payload, or of what a writer is lent
abbrev pub message_content : Message → List ℕ → Content
message_content m s = content (message_type m) (message_values m) (each_part s (message_parts m))

-- the parts' bytes, one behind the other
abbrev pub message_bytes : Message → List ℕ → List ℕ
message_bytes m s = parts_of s (message_parts m)

-- where in the data the bytes begin that the parts count from
abbrev pub parts_at : Message → ℕ
parts_at (Hello flags) = 0
parts_at (SessionNonce f) = 0
parts_at (Heartbeat t) = 0
parts_at (Status f) = 0
parts_at GetMac = 0
parts_at (Control c) = 5
parts_at (HubReply f) = 0
