-- What one part does to the assembler: document 02 §1.
use Rattle.std.specs.Prelude.{ℕ, ◌+◌, ◌≡◌, Bool, true, false, not, ◌&&◌, ◌||◌, List, [], ◌∷◌, length, get_or, drop, replicate, eqb, leb, ltb, Option, Some, None, Result, Ok, Err}
use Rattle.wire.specs.Choice.{pick}
use Rattle.wire.specs.Content.{Judged, accepted, refused}
use Rattle.wire.specs.Parts.{part_of}
use Rattle.wire.specs.Rules.{Rule, ◌when◌, judge}
use Rattle.wire.specs.Writing.{placed}
use Rattle.multipart.specs.declared.Progress.{Progress}
use Rattle.multipart.specs.declared.Assembler.{Assembler}
use Rattle.wire.specs.Refusals.{refusing, number_of}
use Rattle.multipart.specs.declared.Step.{Step}
use Rattle.wire.specs.declared.refusals.Refusal.{Refusal}

-- ---- the record
-- how many parts and bytes are gathered
abbrev pub gathered : ℕ → ℕ → Progress
gathered parts bytes = record { parts = parts; bytes = bytes; discarding = false }

abbrev pub fresh_progress : Progress
fresh_progress = gathered 0 0

-- nothing is gathered, and parts are discarded
abbrev pub discarding : Progress
discarding = record { parts = 0; bytes = 0; discarding = true }

abbrev pub holding : Progress → List ℕ → Assembler
holding p s = record { progress = p; store = s }

-- the store is zero when fresh
abbrev pub fresh_assembler : Assembler
fresh_assembler = holding fresh_progress (replicate 500 0)

-- counts outside the limits: above 255 parts, above 500 bytes, bytes without a part
unfoldable pub outside : Progress → Bool
outside p = ltb 255 p.parts || ltb 500 p.bytes || (eqb p.parts 0 && ltb 0 p.bytes)

-- such a record is taken as fresh
unfoldable pub limited : Progress → Progress
limited p = pick (outside p) fresh_progress p

-- ---- one part: how the record stands after it, and the answer
-- nothing yet, a message of this length, or a refusal
abbrev pub PartAnswer : Type 0
PartAnswer = Result (Option ℕ) Refusal

abbrev pub more : PartAnswer
more = Ok None

abbrev pub message_given : ℕ → PartAnswer
message_given n = Ok (Some n)

abbrev pub step_to : Progress → List ℕ → PartAnswer → Step
step_to p s answer = record { assembler = holding p s; answer = answer }

-- a 255, or the next counter, behind 254 a 255 alone; while discarding every counter is out of turn
unfoldable pub in_turn : Progress → ℕ → Bool
in_turn p counter = not p.discarding && (eqb counter 255 || eqb counter p.parts)

-- 26: a 255 ends the discarding; a 0 is kept as a first part unless it alone is over 500
unfoldable pub out_of_turn : List ℕ → ℕ → List ℕ → Step
out_of_turn s counter bytes =
    pick (eqb counter 255)
    (step_to fresh_progress s (refusing 26))
    (pick (eqb counter 0 && leb (length bytes) 500)
    (step_to (gathered 1 (length bytes)) (placed 0 bytes s) (refusing 26))
    (step_to discarding s (refusing 26)))

-- the message over 500 bytes: a 255 leaves no discarding behind
unfoldable pub over_long : List ℕ → ℕ → Step
over_long s counter = step_to (pick (eqb counter 255) fresh_progress discarding) s (refusing 27)

-- the bytes go to the next places of the store; 255 is the last part
unfoldable pub kept : Progress → List ℕ → ℕ → List ℕ → Step
kept p s counter bytes =
    pick (eqb counter 255)
    (step_to fresh_progress (placed p.bytes bytes s) (message_given (p.bytes + length bytes)))
    (step_to (gathered (p.parts + 1) (p.bytes + length bytes)) (placed p.bytes bytes s) more)

-- a counter and bytes: 26 for a counter out of turn; 27 for a message over 500 bytes
unfoldable pub counted : Progress → List ℕ → ℕ → List ℕ → Step
counted p s counter bytes =
    pick (not (in_turn p counter))
    (out_of_turn s counter bytes)
    (pick (ltb 500 (p.bytes + length bytes))
    (over_long s counter)
    (kept p s counter bytes))

-- 7 for a part without a counter, which changes nothing
unfoldable pub step_of : Assembler → List ℕ → Step
step_of a part =
    pick (eqb (length part) 0)
    (step_to a.progress a.store (refusing 7))
    (counted (limited a.progress) a.store (get_or part 0 0) (drop 1 part))

-- ---- the numbers
-- the refusals in order, of a record within the limits
abbrev pub part_rules : Progress → List ℕ → List Rule
part_rules p part =
    (7 when eqb (length part) 0)
    ∷ (26 when not (in_turn p (get_or part 0 0)))
    ∷ (27 when ltb 500 (p.bytes + length (drop 1 part)))
    ∷ []

-- nothing yet, or the message's length
abbrev pub length_given : Progress → List ℕ → List ℕ
length_given p part = pick (eqb (get_or part 0 0) 255) ((p.bytes + length (drop 1 part)) ∷ []) []

abbrev pub answer_number : PartAnswer → Judged (List ℕ) ℕ
answer_number (Ok None) = accepted []
answer_number (Ok (Some n)) = accepted (n ∷ [])
answer_number (Err r) = refused (number_of r)

-- what a function promises that takes one part
pub record TakesPart (a : Assembler) (part : List ℕ) (a' : Assembler) (answer : PartAnswer) : Type 0 where
  pub number : answer_number answer ≡ judge refused (part_rules (limited a.progress) part) (accepted (length_given (limited a.progress) part))
  -- the answer by the cases of the enum
  pub answers : answer ≡ (step_of a part).answer
  pub leaves : a' ≡ (step_of a part).assembler

-- ---- the message, as it stands in the store
abbrev pub message_of : List ℕ → ℕ → List ℕ
message_of s len = part_of s (record { start = 0; len = len })
