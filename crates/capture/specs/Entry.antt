-- An event as an entry of the lent list, one number of 64 bits, and back.
use Rattle.std.specs.Prelude.{ℕ, ◌+◌, ◌≤◌, ◌<◌, ◌≡◌, refl, ◌&&◌, List, [], ◌∷◌, map, take, get_or, eqb, leb, Option, Some, None}
use Rattle.wire.specs.Choice.{pick}
use Rattle.wire.specs.Numbers.{num, le}
use Rattle.wire.specs.Parts.{part}
use Rattle.wire.specs.Fields.{Field, any, encode, values_at}
use Rattle.wire.specs.Refusals.{refusal_of}
use Rattle.wire.specs.declared.Part.{Part}
use Rattle.wire.specs.declared.refusals.Refusal.{Refusal}
use Rattle.wire.specs.declared.refusals.Refusal.TheVariants.{BadFrameSize}
use Rattle.line.specs.Line.{Emitted, refusal, frame}
use Rattle.line.specs.declared.Event.{Event}
use Rattle.line.specs.declared.Event.TheVariants.{Frame, Refused}
use Rattle.capture.specs.Capture.{Found, found_at}

-- the fields of its eight bytes, low byte first: kind, payload length or place (2), major, minor, wrapper type, offset of the start byte (2)
abbrev pub entry_fields : List Field
entry_fields = any 1 ∷ any 2 ∷ any 1 ∷ any 1 ∷ any 1 ∷ any 2 ∷ []

-- a refusal's kind is its number, 1 to 4; a frame's is 5
abbrev pub entry_values : ℕ → Emitted → List ℕ
entry_values offset (refusal n place) = n ∷ place ∷ 0 ∷ 0 ∷ 0 ∷ offset ∷ []
entry_values offset (frame major minor wrapper len payload) = 5 ∷ len ∷ major ∷ minor ∷ wrapper ∷ offset ∷ []

abbrev pub packed : List ℕ → ℕ
packed values = num 8 0 (encode entry_fields values)

abbrev pub entry : Found → ℕ
entry f = packed (entry_values f.offset f.event)

-- ---- back, from any number
abbrev pub values_of : ℕ → List ℕ
values_of n = values_at entry_fields 0 (le 8 n)

-- the refusal of a kind, none where that is no refusal's number
abbrev pub refusal_of_kind : ℕ → Option Refusal
refusal_of_kind kind = pick (leb 1 kind && leb kind 4) (Some (refusal_of kind)) None

-- no event where the kind is neither a refusal's nor a frame's
unfoldable pub event_by : ℕ → List ℕ → Option Event
event_by kind values =
    pick (eqb kind 5)
    (Some (Frame (get_or values 2 0) (get_or values 3 0) (get_or values 4 0) (get_or values 1 0)))
    (pick (leb 1 kind && leb kind 4) (Some (Refused (refusal_of kind) (get_or values 1 0))) None)

abbrev pub event_of : ℕ → Option Event
event_of n = event_by (get_or (values_of n) 0 0) (values_of n)

abbrev pub offset_of : ℕ → ℕ
offset_of n = get_or (values_of n) 5 0

-- ---- the law that `event_of` gives the event packed, and `offset_of` its offset; proofs/Unpacking.antt proves it
-- an event without its payload
abbrev pub without_payload : Emitted → Event
without_payload (refusal n place) = Refused (refusal_of n) place
without_payload (frame major minor wrapper len payload) = Frame major minor wrapper len

-- what an entry has room for
abbrev pub Packable : Emitted → Type 0
Packable (refusal n place) = (1 ≤ n) × (n ≤ 4) × (place < 65536)
Packable (frame major minor wrapper len payload) = (major < 256) × (minor < 256) × (wrapper < 256) × (len < 65536)

abbrev pub EntryBack : Type 0
EntryBack = (offset : ℕ) (e : Emitted) → offset < 65536 → Packable e
    → (event_of (entry (found_at offset e)) ≡ Some (without_payload e)) × (offset_of (entry (found_at offset e)) ≡ offset)

-- ---- where payloads lie in the lent buffer, one behind the other
abbrev pub payload_length : Option Event → ℕ
payload_length None = 0
payload_length (Some (Frame major minor wrapper len)) = len
payload_length (Some (Refused r place)) = 0

abbrev pub length_of : ℕ → ℕ
length_of n = payload_length (event_of n)

unfoldable pub payload_total : List ℕ → ℕ
payload_total [] = 0
payload_total (n ∷ ns) = length_of n + payload_total ns

-- the part of the entry with a number, counted from 0: behind the payloads of the entries before it. A refusal's is empty, and so is that
-- of an entry that is not there; no capture has an entry 65,536, and from there on it is empty at 0
unfoldable pub payload_part : List ℕ → ℕ → Part
payload_part entries k =
    pick (leb 65536 k) (part 0 0) (part (payload_total (take k entries)) (length_of (get_or entries k 0)))

-- ---- by hand: a frame of version 1.2, wrapper type 128 and 507 payload bytes, whose start byte has offset 65,525; refusal 3 at place 3 of
-- the frame at offset 12; numbers that are no event
example_frame : (p : List ℕ) → entry (found_at 65525 (frame 1 2 128 507 p)) ≡ 0xFFF580020101FB05
example_frame p = refl

example_refusal : entry (found_at 12 (refusal 3 3)) ≡ 0x000C000000000303
example_refusal = refl

example_frame_back : event_of 0xFFF580020101FB05 ≡ Some (Frame 1 2 128 507)
unfolding event_by
example_frame_back = refl

example_offset_back : offset_of 0xFFF580020101FB05 ≡ 65525
example_offset_back = refl

example_refusal_back : event_of 0x000C000000000303 ≡ Some (Refused BadFrameSize 3)
unfolding event_by
example_refusal_back = refl

example_zero : event_of 0 ≡ None
unfolding event_by
example_zero = refl

example_six : event_of 0x0006000001000306 ≡ None
unfolding event_by
example_six = refl

-- a frame with 3 payload bytes, a refusal, a frame with 2, and an entry that is not there
example_parts :
    map (payload_part (0x0000000001000305 ∷ 0x000C000000000303 ∷ 0x000F000001000205 ∷ [])) (0 ∷ 1 ∷ 2 ∷ 3 ∷ [])
    ≡ part 0 3 ∷ part 3 0 ∷ part 3 2 ∷ part 5 0 ∷ []
unfolding payload_part payload_total event_by
example_parts = refl
