-- WHAT A CALLER READS OF LIST AND BUFFER IS WHAT THE RECEIVER HANDS OUT: document 02 §8. The statement; proofs/Reading.antt proves it.
use Rattle.std.specs.Prelude.{ℕ, ◌<◌, ◌≡◌, List, length, get_or, Some, Ok}
use Rattle.wire.specs.Numbers.{Bytes}
use Rattle.wire.specs.Parts.{part_of}
use Rattle.line.specs.Receive.{fresh_receiver}
use Rattle.line.specs.Line.{refusal}
use Rattle.capture.specs.Capture.{Found, found_at}
use Rattle.capture.specs.Agreement.{run_from}
use Rattle.capture.specs.Entry.{without_payload, event_of, offset_of, payload_part}
use Rattle.capture.specs.Answer.{found_payload, Decodes}
use Rattle.capture.specs.declared.Counts.{Counts}

-- an entry of the list, counted from 0, with the buffer beside it: the event, the offset of its start byte, and its payload
pub record Reads (list buffer : List ℕ) (k : ℕ) (f : Found) : Type 0 where
  pub event : event_of (get_or list k 0) ≡ Some (without_payload f.event)
  pub offset : offset_of (get_or list k 0) ≡ f.offset
  pub payload : part_of buffer (payload_part list k) ≡ found_payload f

-- what stands for an event that is not there
abbrev pub none : Found
none = found_at 0 (refusal 0 0)

-- as many entries as the receiver, fed byte by byte from fresh, hands out events, and each of them reads as its own
pub record ReadsAll (capture list buffer : List ℕ) (entries : ℕ) : Type 0 where
  pub count : entries ≡ length (run_from 0 capture fresh_receiver)
  pub each : (k : ℕ) → k < entries → Reads list buffer k (get_or (run_from 0 capture fresh_receiver) k none)

-- whenever the decoder says that it decoded a capture
abbrev pub ReadsBack : Type 0
ReadsBack =
    (capture list buffer list' buffer' : List ℕ) (c : Counts) → Bytes capture
    → Decodes capture list buffer (Ok c) list' buffer' → ReadsAll capture list' buffer' c.entries
