-- What a command and a message hold, as texts: each number behind a space, of a signed one its byte, and its value behind the word offset; each part as
-- START+LENGTH behind a space.
use Rattle.std.specs.Prelude.{ℕ, suc, ◌≡◌, refl, List, [], ◌∷◌, ◌++◌, ℤ, pos, negsuc, Option, Some, None}
use Rattle.wire.specs.Parts.{part}
use Rattle.wire.specs.declared.Part.{Part}
use Rattle.text.specs.Ascii.{ascii}
use Rattle.text.specs.Digits.{decimal_in, decimal, decimals}
use Rattle.control.specs.Command.{command_number, command_values, command_parts}
use Rattle.control.specs.declared.Command.{Command}
use Rattle.control.specs.declared.Command.TheVariants as command
use Rattle.message.specs.Message.{message_type, message_values, message_parts}
use Rattle.message.specs.declared.Message.{Message}
use Rattle.message.specs.declared.Message.TheVariants as message

abbrev pub part_text : Part → List ℕ
part_text p = (32 ∷ decimal p.start) ++ (43 ∷ decimal p.len)

abbrev pub part_texts : List Part → List ℕ
part_texts [] = []
part_texts (p ∷ ps) = part_text p ++ part_texts ps

-- the RSSI offset of a command that has one
abbrev pub command_offset : Command → Option ℤ
command_offset (command.Setup f) = None
command_offset command.FactoryReset = None
command_offset (command.GetState f) = None
command_offset (command.SetState f) = None
command_offset command.BootloaderVersion = None
command_offset command.UicrData = None
command_offset (command.IbeaconConfig f) = None
command_offset command.Reset = None
command_offset command.GotoDfu = None
command_offset command.NoOperation = None
command_offset command.Disconnect = None
command_offset (command.Switch v) = None
command_offset (command.MultiSwitch f) = None
command_offset (command.RegisterTrackedDevice f) = Some f.offset
command_offset (command.TrackedDeviceHeartbeat f) = None
command_offset command.GetPresence = None
command_offset command.GetUptime = None

abbrev pub message_offset : Message → Option ℤ
message_offset (message.Hello flags) = None
message_offset (message.SessionNonce f) = None
message_offset (message.Heartbeat t) = None
message_offset (message.Status f) = None
message_offset message.GetMac = None
message_offset (message.Control c) = command_offset c
message_offset (message.HubReply f) = None

-- with a minus sign where it is below 0
abbrev pub rssi_text : ℤ → List ℕ
rssi_text (pos n) = ascii " offset " ++ decimal n
rssi_text (negsuc n) = ascii " offset -" ++ decimal (suc n)

abbrev pub offset_text : Option ℤ → List ℕ
offset_text None = []
offset_text (Some z) = rssi_text z

abbrev pub command_text : Command → List ℕ
command_text c = decimals (command_number c ∷ command_values c) ++ (offset_text (command_offset c) ++ part_texts (command_parts c))

abbrev pub message_text : Message → List ℕ
message_text m = decimals (message_type m ∷ message_values m) ++ (offset_text (message_offset m) ++ part_texts (message_parts m))

-- ---- set state of type 300 with a value of two bytes, and a control message with a switch
example_command : command_text (command.SetState (record { kind = 300; id = 0; mode = 1; value = part 6 2 })) ≡ ascii " 3 300 0 1 0 6+2"
unfolding decimal_in decimals
example_command = refl

example_message : message_text (message.Control (command.Switch 100)) ≡ ascii " 10 20 100"
unfolding decimal_in decimals
example_message = refl

example_offset : command_text (command.RegisterTrackedDevice (record { device = 258; location = 3; profile = 1; offset = negsuc 58; flags = 0; token = 197121; ttl = record { 0 = 1440 } }))
    ≡ ascii " 70 258 3 1 197 0 197121 1440 offset -59"
unfolding decimal_in decimals
example_offset = refl
