-- THE DECODER SAYS WHAT THE RECEIVER SAYS: document 02 §8. The statement; proofs/Agreement.antt proves it.
use Rattle.std.specs.Prelude.{ℕ, ◌+◌, ◌-◌, ◌≡◌, List, [], ◌∷◌, ◌++◌, map}
use Rattle.line.specs.Receive.{fresh_receiver, step_of}
use Rattle.line.specs.Line.{Emitted, gives, run}
use Rattle.line.specs.declared.Receiver.{Receiver}
use Rattle.capture.specs.Capture.{Found, found_at, decoded}

abbrev pub events_of : List Found → List Emitted
events_of fs = map (λ f. f.event) fs

-- all that the receiver hands out over bytes of which the first has an offset, each byte finding the record as the last one left it; and
-- with each event the offset of its frame's start byte, which is that of the byte that caused the event less the record's count
unfoldable pub run_from : ℕ → List ℕ → Receiver → List Found
run_from at [] r = []
run_from at (b ∷ bs) r = map (found_at (at - r.progress.count)) (gives r b) ++ run_from (at + 1) bs (step_of r b).receiver

-- for every list of bytes, of any length
pub record Agreement : Type 0 where
  -- the frames and refusals, in order, places and payloads included
  pub same : (capture : List ℕ) → events_of (decoded capture) ≡ run capture fresh_receiver
  -- and their offsets
  pub offsets : (capture : List ℕ) → decoded capture ≡ run_from 0 capture fresh_receiver
