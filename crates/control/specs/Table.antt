-- The table of commands ('Messages', second table, and document 02 §7): a row each.
use Rattle.std.specs.Prelude.{ℕ, ◌-◌, Bool, true, false, ◌||◌, List, [], ◌∷◌, get_or}
use Rattle.wire.specs.Lookup.{lookup}
use Rattle.wire.specs.Signed.{signed}
use Rattle.wire.specs.Parts.{part}
use Rattle.wire.specs.Fields.{Field, Layout, layout, exactly, at_least, pairs, any, up_to, is, nothing, free, cut_at, seconds}
use Rattle.access.specs.declared.Mode.{Mode}
use Rattle.access.specs.declared.Mode.TheVariants.{Normal, Setup as SetupMode}
use Rattle.access.specs.declared.Access.{Access}
use Rattle.access.specs.declared.Access.TheVariants.{Plain, Keyed, Unknown}
use Rattle.access.specs.declared.Level.TheVariants.{Admin, Member, Basic, Setup as SetupLevel}
use Rattle.control.specs.declared.marks.Marks.{Marks}
use Rattle.control.specs.declared.Command.{Command}
use Rattle.control.specs.declared.Command.TheVariants.{Setup, FactoryReset, GetState, SetState, BootloaderVersion, UicrData, IbeaconConfig, Reset, GotoDfu, NoOperation, Disconnect, Switch, MultiSwitch, RegisterTrackedDevice, TrackedDeviceHeartbeat, GetPresence, GetUptime}

-- ---- marks of access: A admin, M member, B basic, S setup
abbrev pub marks : Bool → Bool → Bool → Bool → Marks
marks a m b s = record { admin = a; member = m; basic = b; setup = s }

abbrev pub A : Marks
A = marks true false false false

abbrev pub AM : Marks
AM = marks true true false false

abbrev pub AMB : Marks
AMB = marks true true true false

abbrev pub AMBS : Marks
AMBS = marks true true true true

abbrev pub S : Marks
S = marks false false false true

-- a mark of the mode: A, M or B in normal, S in setup
abbrev pub in_mode : Mode → Marks → Bool
in_mode Normal k = k.admin || (k.member || k.basic)
in_mode SetupMode k = k.setup

-- an encrypted packet's level has its mark; a plain one needs none; there is none for a number that no level has
abbrev pub has_mark : Access → Marks → Bool
has_mark Plain k = true
has_mark (Keyed Admin) k = k.admin
has_mark (Keyed Member) k = k.member
has_mark (Keyed Basic) k = k.basic
has_mark (Keyed SetupLevel) k = k.setup
has_mark Unknown k = false

-- ---- rows
pub record Row : Type 0 where
  pub listed : Bool
  pub number : ℕ
  pub marked : Marks
  pub payload : Layout
  -- the command, of the numbers in the fields and the payload's length
  pub make : List ℕ → ℕ → Command

abbrev pub row : ℕ → Marks → Layout → (List ℕ → ℕ → Command) → Row
row n k l f = record { listed = true; number = n; marked = k; payload = l; make = f }

-- no payload
abbrev pub none : Layout
none = layout (exactly 0) [] nothing

-- get state's and set state's type, id and mode up to a limit, and the reserved 0
abbrev pub state : ℕ → List Field
state most = any 2 ∷ any 2 ∷ up_to 1 most ∷ is 1 0 ∷ []

abbrev pub table : List Row
table =
    row 0 S (layout (at_least 98) (any 1 ∷ any 1 ∷ []) (cut_at 96))
    (λ v n. Setup (record { stone = get_or v 0 0; sphere = get_or v 1 0; keys = part 2 96; rest = part 98 (n - 98) }))
    ∷ row 1 A (layout (exactly 4) (is 4 0xDEADBEEF ∷ []) nothing) (λ v n. FactoryReset)
    ∷ row 2 AMB (layout (exactly 6) (state 2) nothing)
    (λ v n. GetState (record { kind = get_or v 0 0; id = get_or v 1 0; mode = get_or v 2 0 }))
    ∷ row 3 AMB (layout (at_least 6) (state 1) free)
    (λ v n. SetState (record { kind = get_or v 0 0; id = get_or v 1 0; mode = get_or v 2 0; value = part 6 (n - 6) }))
    ∷ row 4 AMBS none (λ v n. BootloaderVersion)
    ∷ row 5 AMBS none (λ v n. UicrData)
    ∷ row 6 A (layout (exactly 7) (up_to 1 1 ∷ any 4 ∷ any 2 ∷ []) nothing)
    (λ v n. IbeaconConfig (record { id = get_or v 0 0; timestamp = get_or v 1 0; interval = get_or v 2 0 }))
    ∷ row 10 A none (λ v n. Reset)
    ∷ row 11 A none (λ v n. GotoDfu)
    ∷ row 12 AMB none (λ v n. NoOperation)
    ∷ row 13 AMB none (λ v n. Disconnect)
    ∷ row 20 AMBS (layout (exactly 1) (up_to 1 100 ∷ []) nothing) (λ v n. Switch (get_or v 0 0))
    ∷ row 21 AMB (layout pairs (any 1 ∷ []) (seconds 100))
    (λ v n. MultiSwitch (record { count = get_or v 0 0; pairs = part 1 (n - 1) }))
    -- device id, location, profile, RSSI offset, flags, token, time to live
    ∷ row 70 AMB (layout (exactly 11) (any 2 ∷ any 1 ∷ any 1 ∷ any 1 ∷ any 1 ∷ any 3 ∷ any 2 ∷ []) nothing)
    (λ v n. RegisterTrackedDevice (record { device = get_or v 0 0; location = get_or v 1 0; profile = get_or v 2 0; offset = signed (get_or v 3 0); flags = get_or v 4 0; token = get_or v 5 0; ttl = record { 0 = get_or v 6 0 } }))
    -- device id, location, token, time to live
    ∷ row 71 AMB (layout (exactly 7) (any 2 ∷ any 1 ∷ any 3 ∷ up_to 1 60 ∷ []) nothing)
    (λ v n. TrackedDeviceHeartbeat (record { device = get_or v 0 0; location = get_or v 1 0; token = get_or v 2 0; ttl = record { 0 = get_or v 3 0 } }))
    ∷ row 72 AM none (λ v n. GetPresence)
    ∷ row 80 A none (λ v n. GetUptime)
    ∷ []

-- what a command that is not listed gets: 20 refuses it before the rest is asked
abbrev pub no_row : Row
no_row = record { listed = false; number = 0; marked = A; payload = none; make = λ v n. NoOperation }

abbrev pub row_of : ℕ → Row
row_of n = lookup (λ (r : Row). r.number) (λ (r : Row). r) no_row table n
