-- A switch packet after session data, a member's in normal mode and setup's in setup mode: what is supposed can be met. Assumes nothing.
use mathlib.Core.Path.{◌≡◌, refl}
use mathlib.Core.Bool.{true}
use mathlib.Core.List.{List, [], ◌∷◌}
use Prim.Native.Nat.{ℕ}
use lib.ListN.{replicate}
use native.Mathlib.Omega.{arith}
use Rattle.access.specs.declared.Access.TheVariants.{Keyed}
use Rattle.access.specs.declared.Mode.{Mode}
use Rattle.access.specs.declared.Mode.TheVariants.{Normal, Setup as SetupMode}
use Rattle.access.specs.declared.Level.{Level}
use Rattle.access.specs.declared.Level.TheVariants.{Member, Setup}
use Rattle.aes.specs.Inverse.{SixteenBytes}
use Rattle.aes.proofs.Bytes.{listed_bytes}
use Rattle.control.specs.Control.{command_at, read_control}
use Rattle.std.specs.Prelude.{Ok, None, is_some, Option, Some}
use Rattle.session.specs.Keys.{key_for, key_bytes}
use Rattle.session.specs.Memory.{limited, remembered}
use Rattle.session.specs.Session.{memory_after, no_connection, connection_there}
use Rattle.session_data.specs.SessionData.{data_key}
use Rattle.session_data.specs.RoundTrip.{Sized}
use Rattle.bridge.specs.declared.Link.{Link}
use Rattle.bridge_laws.specs.Connected.{Connectable}

abbrev filled : ℕ → Option (List ℕ)
filled b = Some (replicate 16 b)

-- without a connection session
abbrev link : Mode → Link
link mode = record { connection = no_connection; keys = record { admin = None; member = filled 1; basic = filled 2; setup = filled 3 }; mode = mode }

abbrev nonce : List ℕ
nonce = 1 ∷ 2 ∷ 3 ∷ 4 ∷ 5 ∷ []

abbrev validation : List ℕ
validation = 6 ∷ 7 ∷ 8 ∷ 9 ∷ []

sized : Sized nonce validation
sized = record { five = refl; four = refl; nonce_is_bytes = listed_bytes nonce 0 tt; validation_bytes = listed_bytes validation 0 tt }

-- command 20 with 100
abbrev packet : List ℕ
packet = 5 ∷ 20 ∷ 0 ∷ 1 ∷ 0 ∷ 100 ∷ []

supposed : (mode : Mode) (level : Level) → is_some (data_key (link mode).keys mode) ≡ true → SixteenBytes (key_bytes (data_key (link mode).keys mode))
    → is_some (key_for (link mode).keys mode level) ≡ true → read_control packet mode (Keyed level) ≡ Ok (command_at packet)
    → Connectable (link mode) level nonce validation (7 ∷ 8 ∷ 9 ∷ []) packet
unfolding connection_there memory_after limited remembered
supposed mode level d b k r = record { data_key_there = d; data_bytes = b; sized = sized; key = k; differs = refl; three = refl; most = omega arith; read = r }

in_normal : Connectable (link Normal) Member nonce validation (7 ∷ 8 ∷ 9 ∷ []) packet
in_normal = supposed Normal Member refl (record { sixteen = refl; bytes = listed_bytes (replicate 16 2) 0 tt }) refl refl

in_setup : Connectable (link SetupMode) Setup nonce validation (7 ∷ 8 ∷ 9 ∷ []) packet
in_setup = supposed SetupMode Setup refl (record { sixteen = refl; bytes = listed_bytes (replicate 16 3) 0 tt }) refl refl
