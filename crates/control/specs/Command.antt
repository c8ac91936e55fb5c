-- What each command holds: the documents' number for it, the numbers in its fields, and the bytes of each part behind the fields.
use Rattle.std.specs.Prelude.{ℕ, ◌+◌, ◌*◌, ◌&&◌, List, [], ◌∷◌, eqb, ltb}
use Rattle.wire.specs.Choice.{pick}
use Rattle.wire.specs.Signed.{unsigned}
use Rattle.wire.specs.Parts.{part}
use Rattle.wire.specs.Content.{Content, content}
use Rattle.wire.specs.Fields.{each_part, parts_of}
use Rattle.wire.specs.declared.Part.{Part}
use Rattle.control.specs.declared.Command.{Command}
use Rattle.control.specs.declared.Command.TheVariants.{Setup, FactoryReset, GetState, SetState, BootloaderVersion, UicrData, IbeaconConfig, Reset, GotoDfu, NoOperation, Disconnect, Switch, MultiSwitch, RegisterTrackedDevice, TrackedDeviceHeartbeat, GetPresence, GetUptime}

abbrev pub command_number : Command → ℕ
command_number (Setup f) = 0
command_number FactoryReset = 1
command_number (GetState f) = 2
command_number (SetState f) = 3
command_number BootloaderVersion = 4
command_number UicrData = 5
command_number (IbeaconConfig f) = 6
command_number Reset = 10
command_number GotoDfu = 11
command_number NoOperation = 12
command_number Disconnect = 13
command_number (Switch v) = 20
command_number (MultiSwitch f) = 21
command_number (RegisterTrackedDevice f) = 70
command_number (TrackedDeviceHeartbeat f) = 71
command_number GetPresence = 72
command_number GetUptime = 80

-- a factory reset carries DEADBEEF; behind a state's mode stands the reserved 0; of a signed number the byte that stands for it
abbrev pub command_values : Command → List ℕ
command_values (Setup f) = f.stone ∷ f.sphere ∷ []
command_values FactoryReset = 0xDEADBEEF ∷ []
command_values (GetState f) = f.kind ∷ f.id ∷ f.mode ∷ 0 ∷ []
command_values (SetState f) = f.kind ∷ f.id ∷ f.mode ∷ 0 ∷ []
command_values BootloaderVersion = []
command_values UicrData = []
command_values (IbeaconConfig f) = f.id ∷ f.timestamp ∷ f.interval ∷ []
command_values Reset = []
command_values GotoDfu = []
command_values NoOperation = []
command_values Disconnect = []
command_values (Switch v) = v ∷ []
command_values (MultiSwitch f) = f.count ∷ []
command_values (RegisterTrackedDevice f) =
    f.device ∷ f.location ∷ f.profile ∷ unsigned f.offset ∷ f.flags ∷ f.token ∷ f.ttl.0 ∷ []
command_values (TrackedDeviceHeartbeat f) = f.device ∷ f.location ∷ f.token ∷ f.ttl.0 ∷ []
command_values GetPresence = []
command_values GetUptime = []

-- the parts that name what stands behind the fields, in order
abbrev pub command_parts : Command → List Part
command_parts (Setup f) = f.keys ∷ f.rest ∷ []
command_parts FactoryReset = []
command_parts (GetState f) = []
command_parts (SetState f) = f.value ∷ []
command_parts BootloaderVersion = []
command_parts UicrData = []
command_parts (IbeaconConfig f) = []
command_parts Reset = []
command_parts GotoDfu = []
command_parts NoOperation = []
command_parts Disconnect = []
command_parts (Switch v) = []
command_parts (MultiSwitch f) = f.pairs ∷ []
command_parts (RegisterTrackedDevice f) = []
command_parts (TrackedDeviceHeartbeat f) = []
command_parts GetPresence = []
command_parts GetUptime = []

-- a command's content, its parts naming bytes of a payload, or of what a writer is lent
abbrev pub command_content : Command → List ℕ → Content
command_content c s = content (command_number c) (command_values c) (each_part s (command_parts c))

-- the parts' bytes, one behind the other
abbrev pub command_bytes : Command → List ℕ → List ℕ
command_bytes c s = parts_of s (command_parts c)

-- setup's six keys of 16 bytes: the one with an index from 0 to 5, where they are 96 bytes of a payload
abbrev pub key_part : Part → ℕ → Part
key_part keys i = pick (eqb keys.len 96 && (ltb i 6 && ltb keys.start 65536)) (part (keys.start + 16 * i) 16) (part 0 0)
