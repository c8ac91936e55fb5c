-- The conclusion of the claim over any frame image and any receiver, and wrong ones of each. proofs/Wrong.antt: the right ones meet it, and each wrong one
-- fails it on a list of two.
use Rattle.std.specs.Prelude.{ℕ, Bool, true, false, not, ◌&&◌, List, [], ◌∷◌, ◌++◌, eqb}
use Rattle.wire.specs.Choice.{pick}
use Rattle.frame.specs.Image.{image}
use Rattle.line.specs.Receive.{holding, step_of}
use Rattle.line.specs.Line.{Emitted, refusal, frame, frame_gives, gives, SentFrame}
use Rattle.line.specs.declared.Progress.{Progress}
use Rattle.line.specs.declared.Receiver.{Receiver}
use Rattle.bridge.specs.declared.Context.{Context}
use Rattle.whole_line.specs.Listed.{SentItem, on_line, Occasion}
use Rattle.whole_line.specs.Claim.{ReadBy}

-- ---- over a frame image, what a byte gives, and the record after it
abbrev pub line_by : (ℕ → List ℕ → List ℕ) → List SentFrame → List ℕ
line_by image [] = []
line_by image (f ∷ fs) = image f.wrapper f.payload ++ (f.noise ++ line_by image fs)

abbrev pub run_by : (Receiver → ℕ → List Emitted) → (Receiver → ℕ → Receiver) → List ℕ → Receiver → List Emitted
run_by gives next [] r = []
run_by gives next (b ∷ bs) r = gives r b ++ run_by gives next bs (next r b)

abbrev pub after_by : (Receiver → ℕ → Receiver) → List ℕ → Receiver → Receiver
after_by next [] r = r
after_by next (b ∷ bs) r = after_by next bs (next r b)

abbrev pub ReadWith : (ℕ → List ℕ → List ℕ) → (Receiver → ℕ → List Emitted) → (Receiver → ℕ → Receiver) → Context → List SentItem → Receiver → (ℕ → Occasion) → Type 0
ReadWith image gives next g ts r at = ReadBy (line_by image (on_line g ts)) (run_by gives next) (after_by next) g ts r at

-- the receiver's own record after a byte
abbrev pub next : Receiver → ℕ → Receiver
next r b = (step_of r b).receiver

-- ---- wrong writers
abbrev pub writes_nothing : ℕ → List ℕ → List ℕ
writes_nothing wrapper payload = []

-- one image for every message
abbrev pub one_image : List ℕ → ℕ → List ℕ → List ℕ
one_image payload wrapper ignored = image 0 payload

-- ---- wrong receivers: the first frame handed out ends the reading
abbrev pub has_frame : List Emitted → Bool
has_frame [] = false
has_frame (refusal n place ∷ es) = has_frame es
has_frame (frame major minor wrapper len payload ∷ es) = true

-- a record that has handed out a frame of a size, and is idle from then on
abbrev pub ended : ℕ → Progress
ended size = record { inside = false; escaped = true; low = 0; got = 0; size = size; count = 0 }

abbrev pub is_ended : Receiver → Bool
is_ended r = not r.progress.inside && r.progress.escaped

abbrev pub first_next : Receiver → ℕ → Receiver
first_next r b = pick (is_ended r) r (pick (has_frame (gives r b)) (holding (ended r.progress.size) (next r b).store) (next r b))

-- nothing more
abbrev pub first_only : Receiver → ℕ → List Emitted
first_only r b = pick (is_ended r) [] (gives r b)

-- the first frame again at each start byte
abbrev pub first_again : Receiver → ℕ → List Emitted
first_again r b = pick (is_ended r) (pick (eqb b 0x7E) (frame_gives r.progress.size 0 r.store) []) (gives r b)
