-- A whole line: the frames on it and the noise between them, and what the receiver hands out.
use Rattle.std.specs.Prelude.{ℕ, ◌+◌, ◌-◌, ◌*◌, ◌≤◌, ◌≡◌, List, [], ◌∷◌, ◌++◌, ◌||◌, length, take, get_or, set, eqb, Option, Some, None}
use Rattle.std.specs.Int.Bits.{bit_xor}
use Rattle.wire.specs.Choice.{pick}
use Rattle.wire.specs.Numbers.{num}
use Rattle.wire.specs.Refusals.{number_of}
use Rattle.crc.specs.Crc.{crc_of}
use Rattle.frame.specs.Image.{image}
use Rattle.line.specs.Receive.{within, busy, step_of, frame_payload}
use Rattle.line.specs.declared.Progress.{Progress}
use Rattle.line.specs.declared.Receiver.{Receiver}
use Rattle.line.specs.declared.Event.{Event}
use Rattle.line.specs.declared.Event.TheVariants.{Frame, Refused}

-- ---- what is handed out
-- a refusal's number and place; or a frame: major, minor, wrapper type, payload length, and its payload as it stands in the store at that
-- moment
pub data Emitted : Type 0 where
  refusal : ℕ → ℕ → Emitted
  frame : ℕ → ℕ → ℕ → ℕ → List ℕ → Emitted

-- ---- what one byte gives, from the record and the byte alone. The numbers are those of document 01's table; a refusal's place is the count
-- of bytes on the line from the frame's start byte, itself counted as 1, up to and including this byte
-- a frame of this size is complete in the store: 4 where the CRC over major through payload differs
unfoldable pub frame_gives : ℕ → ℕ → List ℕ → List Emitted
frame_gives size place s =
    pick (eqb (crc_of (take (size - 2) s)) (num 2 (size - 2) s))
    (frame (get_or s 0 0) (get_or s 1 0) (get_or s 2 0) (size - 5) (frame_payload (size - 5) s) ∷ [])
    (refusal 4 place ∷ [])

-- an unescaped byte: 3 where it makes a size below 5 or above 512; the frame's last one completes it
unfoldable pub value_gives : Progress → ℕ → List ℕ → ℕ → List Emitted
value_gives p place s v =
    pick (eqb p.got 1)
    (pick (within (p.low + 256 * v)) [] (refusal 3 place ∷ []))
    (pick (eqb p.got (p.size + 1)) (frame_gives p.size place (set s (p.got - 2) v)) [])

-- a byte after 5C that is no 7E: 2 where it is neither 3E nor 1C, which stand for themselves XOR 40
unfoldable pub escaped_gives : Progress → ℕ → List ℕ → ℕ → List Emitted
escaped_gives p place s b = pick (eqb b 0x3E || eqb b 0x1C) (value_gives p place s (bit_xor b 0x40)) (refusal 2 place ∷ [])

-- a byte inside an unfinished frame: 1 where it is 7E
unfoldable pub inside_gives : Progress → List ℕ → ℕ → List Emitted
inside_gives p s b =
    pick (eqb b 0x7E)
    (refusal 1 (p.count + 1) ∷ [])
    (pick p.escaped
    (escaped_gives p (p.count + 1) s b)
    (pick (eqb b 0x5C) [] (value_gives p (p.count + 1) s b)))

-- idle, no byte gives anything
unfoldable pub gives : Receiver → ℕ → List Emitted
gives r b = pick (busy r.progress) (inside_gives r.progress r.store b) []

-- all that is handed out over a list of bytes, and the receiver after it: each byte finds the record as the last one left it
unfoldable pub run : List ℕ → Receiver → List Emitted
run [] r = []
run (b ∷ bs) r = gives r b ++ run bs (step_of r b).receiver

unfoldable pub after : List ℕ → Receiver → Receiver
after [] r = r
after (b ∷ bs) r = after bs (step_of r b).receiver

-- ---- what the code's event hands out, with the store after it
abbrev pub emitted : Option Event → List ℕ → List Emitted
emitted None s = []
emitted (Some (Refused r place)) s = refusal (number_of r) place ∷ []
emitted (Some (Frame major minor wrapper len)) s = frame major minor wrapper len (frame_payload len s) ∷ []

-- what a function promises that takes one byte: the record after it, the event, and that it hands out what the byte gives
pub record Received (r : Receiver) (b : ℕ) (r' : Receiver) (e : Option Event) : Type 0 where
  pub receiver : r' ≡ (step_of r b).receiver
  pub event : e ≡ (step_of r b).event
  pub emits : emitted e r'.store ≡ gives r b

-- what holds of the number and place of every refusal
abbrev pub EachRefusal : (ℕ → ℕ → Type 0) → List Emitted → Type 0
EachRefusal P [] = Unit {0}
EachRefusal P (refusal n place ∷ es) = P n place × EachRefusal P es
EachRefusal P (frame major minor wrapper len payload ∷ es) = EachRefusal P es

-- a number is 1 to 4, and a place 1 to 1029
abbrev pub Limits : ℕ → ℕ → Type 0
Limits n place = (1 ≤ n) × (n ≤ 4) × (1 ≤ place) × (place ≤ 1029)

-- ---- what is put on the line
-- a frame's wrapper type and payload, and the bytes behind it that belong to no frame
pub record SentFrame : Type 0 where
  pub wrapper : ℕ
  pub payload : List ℕ
  pub noise : List ℕ

abbrev pub NoStart : List ℕ → Type 0
NoStart [] = Unit {0}
NoStart (b ∷ bs) = (b ≡ 0x7E → ⊥) × NoStart bs

-- payloads of 0 to 507 bytes, and noise without a start byte
abbrev pub Sendable : List SentFrame → Type 0
Sendable [] = Unit {0}
Sendable (f ∷ fs) = (length f.payload ≤ 507) × NoStart f.noise × Sendable fs

unfoldable pub line_of : List SentFrame → List ℕ
line_of [] = []
line_of (f ∷ fs) = image f.wrapper f.payload ++ (f.noise ++ line_of fs)

-- the frames that are to be handed out
unfoldable pub frames_of : List SentFrame → List Emitted
frames_of [] = []
frames_of (f ∷ fs) = frame 1 0 f.wrapper (length f.payload) f.payload ∷ frames_of fs
