-- What a capture holds, found by looking ahead: document 02 §8.
use Rattle.std.specs.Prelude.{ℕ, ◌+◌, ◌-◌, ◌≡◌, refl, List, [], ◌∷◌, ◌++◌, map, take, drop, get_or, eqb}
use Rattle.wire.specs.Choice.{pick}
use Rattle.wire.specs.Numbers.{num}
use Rattle.crc.specs.Crc.{crc_of, crc_from, crc_byte, crc_bit}
use Rattle.line.specs.Receive.{within}
use Rattle.line.specs.Line.{Emitted, refusal, frame}
use Rattle.capture.specs.Ahead.{Ahead, whole, start, bad_escape, end, ahead, before, behind_escape}

-- what comes of looking ahead from a place of a frame, its start byte being at place 1: refusal 1 at a 7E, refusal 2 at a bad escape, nothing
-- at the end of the capture; else what the bytes give
unfoldable pub events_ahead : ℕ → (ℕ → List ℕ → List ℕ → List Emitted) → Ahead → List Emitted
events_ahead place give (whole n vs rest) = give (place + n) vs rest
events_ahead place give (start n) = refusal 1 (place + n) ∷ []
events_ahead place give (bad_escape n) = refusal 2 (place + n) ∷ []
events_ahead place give end = []

-- all the bytes that the size counts: 4 where the CRC over major through payload differs
unfoldable pub checked : ℕ → ℕ → List ℕ → List Emitted
checked size place vs =
    pick (eqb (crc_of (take (size - 2) vs)) (num 2 (size - 2) vs))
    (frame (get_or vs 0 0) (get_or vs 1 0) (get_or vs 2 0) (size - 5) (take (size - 5) (drop 3 vs)) ∷ [])
    (refusal 4 place ∷ [])

-- the size: 3 where it is below 5 or above 512; else the bytes that it counts are looked for
unfoldable pub sized : ℕ → ℕ → List ℕ → List Emitted
sized size place rest =
    pick (within size)
    (events_ahead place (λ place vs rest. checked size place vs) (ahead size rest))
    (refusal 3 place ∷ [])

-- what stands behind a start byte: the two bytes of the size are looked for
unfoldable pub behind_start : List ℕ → List Emitted
behind_start bs = events_ahead 1 (λ place vs rest. sized (num 2 0 vs) place rest) (ahead 2 bs)

-- an event, and the offset of its start byte in the capture
pub record Found : Type 0 where
  pub offset : ℕ
  pub event : Emitted

abbrev pub found_at : ℕ → Emitted → Found
found_at at e = record { offset = at; event = e }

-- from an offset on, each 7E begins a frame. (The bytes of its event hold no other 7E, save the one of a refusal 1, which begins the next
-- frame. So one may as well go on behind the event, and behind a refusal 1 at that 7E.)
unfoldable pub found_from : ℕ → List ℕ → List Found
found_from at [] = []
found_from at (b ∷ bs) = pick (eqb b 0x7E) (map (found_at at) (behind_start bs)) [] ++ found_from (at + 1) bs

-- the whole capture
abbrev pub decoded : List ℕ → List Found
decoded capture = found_from 0 capture

-- ---- on the line, by hand from document 01: its hello frame, a byte of noise and a size of 0; a CRC byte off by one; 7E 7E, 7E 5C 7E and
-- 7E 5C 5C; and a frame unfinished at the end, just behind a 5C. Offsets are counted from 0, places from the start byte as 1
example_frame :
    decoded (0x7E ∷ 0x08 ∷ 0x00 ∷ 0x01 ∷ 0x00 ∷ 0x00 ∷ 0x00 ∷ 0x00 ∷ 0x00 ∷ 0xB0 ∷ 0x4B ∷ 0x41 ∷ 0x7E ∷ 0x00 ∷ 0x00 ∷ [])
    ≡ found_at 0 (frame 1 0 0 3 (0 ∷ 0 ∷ 0 ∷ [])) ∷ found_at 12 (refusal 3 3) ∷ []
unfolding found_from behind_start events_ahead sized checked ahead before crc_from crc_byte crc_bit
example_frame = refl

example_crc :
    decoded (0x41 ∷ 0x7E ∷ 0x08 ∷ 0x00 ∷ 0x01 ∷ 0x00 ∷ 0x00 ∷ 0x00 ∷ 0x00 ∷ 0x00 ∷ 0xB0 ∷ 0x4A ∷ []) ≡ found_at 1 (refusal 4 11) ∷ []
unfolding found_from behind_start events_ahead sized checked ahead before crc_from crc_byte crc_bit
example_crc = refl

example_start : decoded (0x7E ∷ 0x7E ∷ 0x5C ∷ 0x7E ∷ 0x5C ∷ 0x5C ∷ []) ≡ found_at 0 (refusal 1 2) ∷ found_at 1 (refusal 1 3) ∷ found_at 3 (refusal 2 3) ∷ []
unfolding found_from behind_start events_ahead ahead before behind_escape
example_start = refl

example_end : decoded (0x7E ∷ 0x08 ∷ 0x00 ∷ 0x01 ∷ 0x5C ∷ []) ≡ []
unfolding found_from behind_start events_ahead sized ahead before behind_escape
example_end = refl
