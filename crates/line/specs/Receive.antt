-- What one byte does to the receiver: document 01, 'Line', and document 02 §4.
use Rattle.std.specs.Prelude.{ℕ, ◌+◌, ◌-◌, ◌*◌, List, [], Bool, true, false, ◌&&◌, take, get_or, set, replicate, eqb, leb, ltb, Option, Some, None}
use Rattle.wire.specs.Choice.{pick}
use Rattle.wire.specs.Numbers.{num}
use Rattle.wire.specs.Parts.{part, part_of}
use Rattle.crc.specs.Crc.{crc_of}
use Rattle.line.specs.declared.Progress.{Progress}
use Rattle.line.specs.declared.Receiver.{Receiver}
use Rattle.line.specs.declared.Step.{Step}
use Rattle.line.specs.declared.Event.{Event}
use Rattle.line.specs.declared.Event.TheVariants.{Frame, Refused}
use Rattle.wire.specs.declared.refusals.Refusal.{Refusal}
use Rattle.wire.specs.declared.refusals.Refusal.TheVariants.{StartInFrame, BadEscape, BadFrameSize, CrcDiffers}

-- ---- the record
-- idle, and inside a frame: whether the last byte was 5C, the size's low byte, how many unescaped bytes have come, the size, 5 until it
-- has come, and how many bytes have come on the line
abbrev pub idle : Progress
idle = record { inside = false; escaped = false; low = 0; got = 0; size = 5; count = 0 }

abbrev pub reading : Bool → ℕ → ℕ → ℕ → ℕ → Progress
reading escaped low got size count = record { inside = true; escaped = escaped; low = low; got = got; size = size; count = count }

-- just after a start byte
abbrev pub after_start : Progress
after_start = reading false 0 0 5 1

abbrev pub holding : Progress → List ℕ → Receiver
holding p s = record { progress = p; store = s }

abbrev pub idle_receiver : List ℕ → Receiver
idle_receiver s = holding idle s

-- the store is zero when fresh
abbrev pub fresh_receiver : Receiver
fresh_receiver = idle_receiver (replicate 512 0)

-- a size is 5 to 512
abbrev pub within : ℕ → Bool
within size = leb 5 size && leb size 512

-- in the middle of a frame: inside it, with a size within the limits, and fewer unescaped bytes have come than the size and its own two
unfoldable pub mid_frame : Progress → Bool
mid_frame p = p.inside && (within p.size && ltb p.got (p.size + 2))

-- taken as inside an unfinished frame. Any other record is taken as idle: one whose counts lie outside these limits, and one inside a frame
-- whose count already stands at 1029 or more
unfoldable pub busy : Progress → Bool
busy p = mid_frame p && ltb p.count 1029

-- ---- one byte: how the record stands after it, and the event
abbrev pub step_to : Progress → List ℕ → Option Event → Step
step_to p s e = record { receiver = holding p s; event = e }

-- a byte inside a frame counts, before it is looked at: a refusal's place is the count
abbrev pub counted : Progress → Progress
counted p = record { inside = p.inside; escaped = p.escaped; low = p.low; got = p.got; size = p.size; count = p.count + 1 }

-- a refused frame leaves the receiver idle
abbrev pub refused_step : Refusal → ℕ → List ℕ → Step
refused_step r place s = step_to idle s (Some (Refused r place))

-- the size is complete: 3 where it is below 5 or above 512
unfoldable pub sized : ℕ → ℕ → List ℕ → Step
sized size count s = pick (within size) (step_to (reading false 0 2 size count) s None) (refused_step BadFrameSize count s)

-- the frame is complete: 4 where the CRC over major through payload differs
unfoldable pub finished : ℕ → ℕ → List ℕ → Event
finished size place s =
    pick (eqb (crc_of (take (size - 2) s)) (num 2 (size - 2) s))
    (Frame (get_or s 0 0) (get_or s 1 0) (get_or s 2 0) (size - 5))
    (Refused CrcDiffers place)

-- an unescaped byte after the size goes to the next place; the last one finishes the frame
unfoldable pub stored : Progress → List ℕ → ℕ → Step
stored p s v =
    pick (eqb p.got (p.size + 1))
    (step_to idle (set s (p.got - 2) v) (Some (finished p.size p.count (set s (p.got - 2) v))))
    (step_to (reading false p.low (p.got + 1) p.size p.count) (set s (p.got - 2) v) None)

-- an unescaped byte: the size's low byte, its high byte, or one after the size
unfoldable pub taken : Progress → List ℕ → ℕ → Step
taken p s v =
    pick (eqb p.got 0)
    (step_to (reading false v 1 p.size p.count) s None)
    (pick (eqb p.got 1)
    (sized (p.low + 256 * v) p.count s)
    (stored p s v))

-- a byte after 5C that is no start byte: 2 where it is neither 3E nor 1C
unfoldable pub unescaped : Progress → List ℕ → ℕ → Step
unescaped p s b = pick (eqb b 0x3E) (taken p s 0x7E) (pick (eqb b 0x1C) (taken p s 0x5C) (refused_step BadEscape p.count s))

-- a byte inside a frame that is no start byte
unfoldable pub in_frame : Progress → List ℕ → ℕ → Step
in_frame p s b =
    pick p.escaped
    (unescaped p s b)
    (pick (eqb b 0x5C) (step_to (reading true p.low p.got p.size p.count) s None) (taken p s b))

-- 7E in any condition begins a new frame, inside an unfinished one with refusal 1, in whose place it counts too; idle, any other byte is
-- dropped
unfoldable pub step_of : Receiver → ℕ → Step
step_of r b =
    pick (eqb b 0x7E)
    (step_to after_start r.store (pick (busy r.progress) (Some (Refused StartInFrame (r.progress.count + 1))) None))
    (pick (busy r.progress)
    (in_frame (counted r.progress) r.store b)
    (step_to r.progress r.store None))

-- ---- a frame's payload, 0 to 507 bytes, as it stands in the store behind major, minor and wrapper type
abbrev pub frame_payload : ℕ → List ℕ → List ℕ
frame_payload len s = pick (leb len 507) (part_of s (part 3 len)) []
