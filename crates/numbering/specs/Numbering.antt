-- An opener's answer as one number, for programs in other languages; and what else the opener is given.
use Rattle.std.specs.Prelude.{ℕ, ◌+◌, ◌*◌, ◌%◌, ◌≡◌, true, false, List, length, get_or, Some, None, Ok, Err}
use Rattle.access.specs.declared.Mode.TheVariants.{Normal}
use Rattle.control.specs.declared.Command.{Command}
use Rattle.control.specs.declared.Command.TheVariants as command
use Rattle.message.specs.declared.Message.{Message}
use Rattle.message.specs.declared.Message.TheVariants as message
use Rattle.session.specs.Memory.{empty_memory}
use Rattle.bridge.specs.Opener.{opened, work_after}
use Rattle.bridge.specs.declared.Context.{Context}
use Rattle.bridge.specs.Content.{Answer}
use Rattle.wire.specs.Refusals.{number_of}

-- the low two bytes of each
unfoldable pub packed : ℕ → ℕ → ℕ → ℕ
packed a b c = a % 65536 + (65536 * (b % 65536) + 4294967296 * (c % 65536))

-- 1100 and the command's number, and two fields
abbrev pub packed_command : Command → ℕ
packed_command (command.Setup f) = packed 1100 f.stone f.rest.len
packed_command command.FactoryReset = packed 1101 0 0
packed_command (command.GetState f) = packed 1102 f.kind f.id
packed_command (command.SetState f) = packed 1103 f.id f.value.len
packed_command command.BootloaderVersion = packed 1104 0 0
packed_command command.UicrData = packed 1105 0 0
packed_command (command.IbeaconConfig f) = packed 1106 f.timestamp f.interval
packed_command command.Reset = packed 1110 0 0
packed_command command.GotoDfu = packed 1111 0 0
packed_command command.NoOperation = packed 1112 0 0
packed_command command.Disconnect = packed 1113 0 0
packed_command (command.Switch value) = packed 1120 value 0
packed_command (command.MultiSwitch f) = packed 1121 f.count f.pairs.len
packed_command (command.RegisterTrackedDevice f) = packed 1170 f.device f.token
packed_command (command.TrackedDeviceHeartbeat f) = packed 1171 f.device f.token
packed_command command.GetPresence = packed 1172 0 0
packed_command command.GetUptime = packed 1180 0 0

-- 1000 and the data type, and two fields
abbrev pub packed_message : Message → ℕ
packed_message (message.Hello flags) = packed 1000 flags 0
packed_message (message.SessionNonce f) = packed 1001 f.timeout.0 (get_or f.nonce 0 0)
packed_message (message.Heartbeat t) = packed 1002 t.0 0
packed_message (message.Status f) = packed 1003 f.kind f.flags
packed_message message.GetMac = packed 1004 0 0
packed_message (message.Control c) = packed_command c
packed_message (message.HubReply f) = packed 1011 f.code f.data.len

-- an answer: the message's number, or the refusal's
abbrev pub packed_answer : Answer → ℕ
packed_answer (Ok a) = packed_message a.0
packed_answer (Err r) = number_of r.refusal

-- normal mode, the admin key alone held, encryption not required, no packet nonce remembered
abbrev pub context_of : List ℕ → List ℕ → ℕ → ℕ → ℕ → Context
context_of key nonce minutes since time =
    record {
      session = record { held = true; nonce = nonce; timeout = record { 0 = minutes }; since = record { 0 = since }; memory = empty_memory };
      time = record { 0 = time };
      keys = record { admin = Some key; member = None; basic = None; setup = None };
      mode = Normal;
      required = false;
    }

-- what the export of a build's opener answers and leaves: the first bytes of a payload, opened as an encrypted message
abbrev pub Exported : Context → List ℕ → List ℕ → ℕ → List ℕ → Type 0
Exported g p work number after = (number ≡ packed_answer (opened g (length work) 1 128 p).answer) × (after ≡ work_after g 1 128 p work)
