-- What a writer of UART messages writes, and what it refuses.
use Rattle.std.specs.Prelude.{ℕ, Bool, true, ◌||◌, List, [], ◌++◌, length, ltb, Result}
use Rattle.wire.specs.Numbers.{le}
use Rattle.wire.specs.Fields.{body_of, unreadable}
use Rattle.wire.specs.Writing.{Writes}
use Rattle.wire.specs.declared.refusals.Refusal.{Refusal}
use Rattle.control.specs.declared.Command.{Command}
use Rattle.control_write.specs.Image.{control_image, command_bad}
use Rattle.message.specs.Message.{message_type, message_values, message_parts}
use Rattle.message.specs.Table.{Body, fields, packet, type_of}
use Rattle.message.specs.declared.Message.{Message}
use Rattle.message.specs.declared.Message.TheVariants.{Hello, SessionNonce, Heartbeat, Status, GetMac, Control, HubReply}

-- what follows of a control message's command, or of any other message
abbrev pub if_control : {A : Type 0} → Message → (Command → A) → A → A
if_control (Hello flags) g a = a
if_control (SessionNonce f) g a = a
if_control (Heartbeat t) g a = a
if_control (Status f) g a = a
if_control GetMac g a = a
if_control (Control c) g a = g c
if_control (HubReply f) g a = a

-- a message's data in the table
abbrev pub body_for : Message → Body
body_for m = (type_of (message_type m)).body

-- its bytes: the fields and what the parts name in s, or the control packet
abbrev pub data_of : Body → Message → List ℕ → List ℕ
data_of (fields l make) m s = body_of l (message_values m) (message_parts m) s
data_of packet m s = if_control m (λ c. control_image c s) []

-- 17: what its reader would refuse
abbrev pub data_bad : Body → Message → List ℕ → Bool
data_bad (fields l make) m s =
    unreadable l (message_values m) (message_parts m) (message_parts (make (message_values m) (length (body_of l (message_values m) (message_parts m) s)))) s
data_bad packet m s = if_control m (λ c. command_bad c s) true

-- data type, data
abbrev pub message_image : Message → List ℕ → List ℕ
message_image m s = le 2 (message_type m) ++ data_of (body_for m) m s

-- 17: data that its reader would refuse, or a message above 507 bytes
abbrev pub message_bad : Message → List ℕ → Bool
message_bad m s = data_bad (body_for m) m s || ltb 507 (length (message_image m s))

-- what the writer answers and leaves
abbrev pub WritesMessage : Message → List ℕ → List ℕ → Result ℕ Refusal → List ℕ → Type 0
WritesMessage m s room answer after = Writes (message_bad m s) (message_image m s) room answer after
