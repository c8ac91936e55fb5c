-- What the decoder answers, and what it leaves in the lent list and buffer: document 02 §8.
use Rattle.std.specs.Prelude.{ℕ, ◌≤◌, ◌≡◌, refl, length, ltb, Result, Ok, Err}
use mathlib.Core.List.{List, [], ◌∷◌, map, flatten}
use Rattle.wire.specs.Rules.{Rule, ◌when◌, judge}
use Rattle.wire.specs.Content.{Judged, accepted, refused}
use Rattle.wire.specs.Writing.{no_room, placed}
use Rattle.wire.specs.Refusals.{number_of, refusing}
use Rattle.wire.specs.declared.refusals.Refusal.{Refusal}
use Rattle.wire.specs.declared.refusals.Refusal.TheVariants.{NoRoom}
use Rattle.line.specs.Line.{Emitted, refusal, frame}
use Rattle.capture.specs.Capture.{Found, found_from, behind_start, events_ahead, sized, checked, decoded}
use Rattle.crc.specs.Crc.{crc_from, crc_byte, crc_bit}
use Rattle.capture.specs.Ahead.{ahead, before}
use Rattle.capture.specs.Entry.{entry}
use Rattle.capture.specs.declared.Counts.{Counts}

abbrev pub payload_of_event : Emitted → List ℕ
payload_of_event (refusal n place) = []
payload_of_event (frame major minor wrapper len payload) = payload

-- one entry for each event, in order
abbrev pub entries_in : List Found → List ℕ
entries_in fs = map entry fs

abbrev pub entries_of : List ℕ → List ℕ
entries_of capture = entries_in (decoded capture)

-- the frames' payloads one behind the other
abbrev pub found_payload : Found → List ℕ
found_payload f = payload_of_event f.event

abbrev pub payloads_in : List Found → List ℕ
payloads_in fs = flatten (map found_payload fs)

abbrev pub payloads_of : List ℕ → List ℕ
payloads_of capture = payloads_in (decoded capture)

-- 17 for a capture of more than 65,536 bytes, then 25 where the list or the buffer is shorter than the answer
abbrev pub capture_rules : List ℕ → List ℕ → List ℕ → List Rule
capture_rules capture list buffer =
    (17 when ltb 65536 (length capture))
    ∷ no_room 0 (entries_of capture) list
    ∷ no_room 0 (payloads_of capture) buffer
    ∷ []

-- so many entries and payload bytes
abbrev pub counts : ℕ → ℕ → Counts
counts entries bytes = record { entries = entries; bytes = bytes }

-- the answer, by its cases; and the list and the buffer after it: a refusal leaves both as they were, and every other number
-- and byte stays
abbrev pub decoded_answer : List ℕ → List ℕ → List ℕ → Result Counts Refusal
decoded_answer capture list buffer =
    judge refusing (capture_rules capture list buffer) (Ok (counts (length (entries_of capture)) (length (payloads_of capture))))

abbrev pub list_after : List ℕ → List ℕ → List ℕ → List ℕ
list_after capture list buffer = judge (λ n. list) (capture_rules capture list buffer) (placed 0 (entries_of capture) list)

abbrev pub buffer_after : List ℕ → List ℕ → List ℕ → List ℕ
buffer_after capture list buffer = judge (λ n. buffer) (capture_rules capture list buffer) (placed 0 (payloads_of capture) buffer)

-- an answer's numbers: how many entries and how many payload bytes, or the refusal's
abbrev pub decoded_number : Result Counts Refusal → Judged (List ℕ) ℕ
decoded_number (Ok c) = accepted (c.entries ∷ c.bytes ∷ [])
decoded_number (Err r) = refused (number_of r)

-- what the decoder promises
pub record Decodes (capture list buffer : List ℕ) (answer : Result Counts Refusal) (list' buffer' : List ℕ) : Type 0 where
  pub number :
      decoded_number answer
      ≡ judge refused (capture_rules capture list buffer) (accepted (length (entries_of capture) ∷ length (payloads_of capture) ∷ []))
  pub answers : answer ≡ decoded_answer capture list buffer
  pub lists : list' ≡ list_after capture list buffer
  pub stores : buffer' ≡ buffer_after capture list buffer

-- ---- how much room suffices: as many entries, and as many bytes, as the capture has bytes
abbrev pub RoomsSuffice : Type 0
RoomsSuffice = (capture : List ℕ) → (length (entries_of capture) ≤ length capture) × (length (payloads_of capture) ≤ length capture)

-- ---- document 01's hello frame with a list of two and a buffer of four, and with a list or a buffer too short
hello : List ℕ
hello = 0x7E ∷ 0x08 ∷ 0x00 ∷ 0x01 ∷ 0x00 ∷ 0x00 ∷ 0x00 ∷ 0x00 ∷ 0x00 ∷ 0xB0 ∷ 0x4B ∷ []

example_answer : decoded_answer hello (9 ∷ 9 ∷ []) (8 ∷ 8 ∷ 8 ∷ 8 ∷ []) ≡ Ok (counts 1 3)
unfolding hello found_from behind_start events_ahead sized checked ahead before crc_from crc_byte crc_bit flatten
example_answer = refl

example_list : list_after hello (9 ∷ 9 ∷ []) (8 ∷ 8 ∷ 8 ∷ 8 ∷ []) ≡ 0x0000000001000305 ∷ 9 ∷ []
unfolding hello found_from behind_start events_ahead sized checked ahead before crc_from crc_byte crc_bit flatten
example_list = refl

example_buffer : buffer_after hello (9 ∷ 9 ∷ []) (8 ∷ 8 ∷ 8 ∷ 8 ∷ []) ≡ 0 ∷ 0 ∷ 0 ∷ 8 ∷ []
unfolding hello found_from behind_start events_ahead sized checked ahead before crc_from crc_byte crc_bit flatten
example_buffer = refl

example_no_list : decoded_answer hello [] (8 ∷ 8 ∷ 8 ∷ []) ≡ Err NoRoom
unfolding hello found_from behind_start events_ahead sized checked ahead before crc_from crc_byte crc_bit flatten
example_no_list = refl

example_short_buffer : list_after hello (9 ∷ []) (8 ∷ 8 ∷ []) ≡ 9 ∷ []
unfolding hello found_from behind_start events_ahead sized checked ahead before crc_from crc_byte crc_bit flatten
example_short_buffer = refl
