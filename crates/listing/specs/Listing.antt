-- The line of each event, and what a part of a capture lists.
use Rattle.std.specs.Prelude.{ℕ, ◌-◌, ◌≤◌, ◌≡◌, refl, List, [], ◌∷◌, ◌++◌, length, take, drop, Option, Some, None}
use Rattle.wire.specs.Refusals.{number_of}
use Rattle.text.specs.Ascii.{ascii}
use Rattle.text.specs.Digits.{decimal, decimals, decimal_in}
use Rattle.text.specs.Puts.{Puts}
use Rattle.line.specs.Line.{Emitted, refusal, frame, run, after}
use Rattle.line.specs.declared.Receiver.{Receiver}
use Rattle.line.specs.declared.Event.{Event}
use Rattle.line.specs.declared.Event.TheVariants.{Frame, Refused}
use Rattle.wire.specs.declared.refusals.Refusal.TheVariants.{BadEscape}

-- a word and two numbers
abbrev pub words : List ℕ → ℕ → ℕ → List ℕ
words word a b = word ++ decimal a ++ ascii " " ++ decimal b

-- refused N PLACE
abbrev pub refused_words : ℕ → ℕ → List ℕ
refused_words n place = words (ascii "refused ") n place

-- what an event is, nothing where there is none: frame TYPE LENGTH, refused N PLACE
abbrev pub event_words : Option Event → List ℕ
event_words None = []
event_words (Some (Frame major minor wrapper len)) = words (ascii "frame ") wrapper len
event_words (Some (Refused r place)) = refused_words (number_of r) place

abbrev pub words_line : List ℕ → ℕ → ℕ → List ℕ
words_line word a b = words word a b ++ ascii "\n"

-- the lines of both
abbrev pub frame_line : ℕ → ℕ → List ℕ
frame_line wrapper len = words_line (ascii "frame ") wrapper len

abbrev pub refused_line : ℕ → ℕ → List ℕ
refused_line n place = words_line (ascii "refused ") n place

-- an event's line, nothing where there is none
abbrev pub event_text : Option Event → List ℕ
event_text None = []
event_text (Some (Frame major minor wrapper len)) = frame_line wrapper len
event_text (Some (Refused r place)) = refused_line (number_of r) place

-- a refusal's numbers, behind a space: refused N PLACE
abbrev pub refused_numbers : ℕ → ℕ → List ℕ
refused_numbers n place = ascii " refused" ++ decimals (n ∷ place ∷ [])

-- an event with all its numbers, behind a space: frame MAJOR MINOR TYPE LENGTH, refused N PLACE
abbrev pub event_numbers : Option Event → List ℕ
event_numbers None = []
event_numbers (Some (Frame major minor wrapper len)) = ascii " frame" ++ decimals (major ∷ minor ∷ wrapper ∷ len ∷ [])
event_numbers (Some (Refused r place)) = refused_numbers (number_of r) place

-- the lines of all that is handed out
unfoldable pub lines_of : List Emitted → List ℕ
lines_of [] = []
lines_of (frame major minor wrapper len payload ∷ es) = frame_line wrapper len ++ lines_of es
lines_of (refusal n place ∷ es) = refused_line n place ++ lines_of es

-- the bytes of a capture between two places
abbrev pub between : ℕ → ℕ → List ℕ → List ℕ
between from to s = take (to - from) (drop from s)

-- what a function promises that lists a part of a capture: the receiver after its bytes, and at the front of the room the lines of all that
-- they give one by one, none of them cut
pub record Lists (s : List ℕ) (from : ℕ) (r : Receiver) (to : ℕ) (r' : Receiver) (room : List ℕ) (at : ℕ) (left : List ℕ) : Type 0 where
  pub forward : from ≤ to
  pub receiver : r' ≡ after (between from to s) r
  pub puts : Puts (lines_of (run (between from to s) r)) 0 room at left
  pub whole : at ≡ length (lines_of (run (between from to s) r))

-- ---- frame 128 507, frame 0 3, frame 1 0 128 507, refused 2 208
example_long : event_text (Some (Frame 1 0 128 507)) ≡ ascii "frame 128 507\n"
unfolding decimal_in
example_long = refl

example_short : event_text (Some (Frame 1 0 0 3)) ≡ ascii "frame 0 3\n"
unfolding decimal_in
example_short = refl

example_numbers : event_numbers (Some (Frame 1 0 128 507)) ≡ ascii " frame 1 0 128 507"
unfolding decimal_in decimals
example_numbers = refl

example_refused : event_text (Some (Refused BadEscape 208)) ≡ ascii "refused 2 208\n"
unfolding decimal_in
example_refused = refl

-- a number that no refusal has
example_any : refused_line 200 7 ≡ ascii "refused 200 7\n"
unfolding decimal_in
example_any = refl
