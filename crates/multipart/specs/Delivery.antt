-- What is proved of many parts: any cutting by the rules comes through. The statements; proofs/Delivery.antt proves them.
use Rattle.std.specs.Prelude.{ℕ, ◌+◌, ◌-◌, ◌≡◌, Bool, true, false, not, ◌&&◌, ◌||◌, length, take, replicate, eqb, leb, Some, None, Ok, Err, Result}
use mathlib.Core.List.{List, [], ◌∷◌, ◌++◌, flatten, map}
use Rattle.wire.specs.Choice.{pick}
use Rattle.wire.specs.Rules.{first_broken}
use Rattle.wire.specs.Writing.{Stores, placed}
use Rattle.wire.specs.declared.refusals.Refusal.{Refusal}
use Rattle.multipart.specs.Cutting.{parts, Cuts, cut_after, pieces_before, cut_image, cutter_rules}
use Rattle.multipart.specs.Assembler.{fresh_progress, holding, outside, step_of, message_of, PartAnswer, more, message_given}
use Rattle.multipart.specs.declared.Progress.{Progress}
use Rattle.multipart.specs.declared.Assembler.{Assembler}
use Rattle.wire.specs.Refusals.{refusing}

-- ---- parts one after the other, each finding the assembler as the last left it
unfoldable pub answers_to : List (List ℕ) → Assembler → List PartAnswer
answers_to [] a = []
answers_to (p ∷ ps) a = (step_of a p).answer ∷ answers_to ps (step_of a p).assembler

unfoldable pub after : List (List ℕ) → Assembler → Assembler
after [] a = a
after (p ∷ ps) a = after ps (step_of a p).assembler

-- the message that an answer hands out, as it stands in the store at that moment
abbrev pub handed : PartAnswer → List ℕ → List (List ℕ)
handed (Ok None) s = []
handed (Ok (Some n)) s = message_of s n ∷ []
handed (Err r) s = []

unfoldable pub handed_out : List (List ℕ) → Assembler → List (List ℕ)
handed_out [] a = []
handed_out (p ∷ ps) a = handed (step_of a p).answer (step_of a p).assembler.store ++ handed_out ps (step_of a p).assembler

-- what parts give: their answers, what is handed out, and the assembler after them
pub record Gives (ps : List (List ℕ)) (a : Assembler) (given : List PartAnswer) (out : List (List ℕ)) (a' : Assembler) : Type 0 where
  pub answered : answers_to ps a ≡ given
  pub hands : handed_out ps a ≡ out
  pub leaves : after ps a ≡ a'

-- ---- one message
-- no part is gathered and nothing is being discarded, or the counts lie outside the limits
unfoldable pub ready : Progress → Bool
ready p = outside p || (eqb p.parts 0 && not p.discarding)

-- parts come through as a message: these answers and then the message's length; the message and nothing else is handed out; it stands at the front of the
-- store, whose other bytes are as they were, and nothing is gathered or being discarded
abbrev pub Delivers : List PartAnswer → List (List ℕ) → List ℕ → Assembler → Type 0
Delivers early ps message a =
    Gives ps a (early ++ (message_given (length message) ∷ [])) (message ∷ []) (holding fresh_progress (placed 0 message a.store))

-- any cutting by the rules, in an assembler that is ready: 'more' before the last
abbrev pub Assembles : Type 0
Assembles =
    (message : List ℕ) (ds : List (List ℕ)) (a : Assembler) → Cuts message ds → ready a.progress ≡ true
    → Delivers (replicate (length ds - 1) more) (parts ds) message a

-- what the cutter wrote, taken apart after every size + 1 bytes
abbrev pub CutAssembles : Type 0
CutAssembles =
    (size : ℕ) (message room left : List ℕ) (answer : Result ℕ Refusal) (a : Assembler) → first_broken (cutter_rules size message room) ≡ 0
    → Stores (cutter_rules size message room) 0 (cut_image size message) room answer left → ready a.progress ≡ true
    → Delivers (replicate (pieces_before size (length message)) more)
    (cut_after (pieces_before size (length message)) (size + 1) (take (length (cut_image size message)) left)) message a

-- ---- from any record whatsoever
-- after a 255 nothing is gathered and nothing is being discarded: any cutting behind it comes through
pub record BehindLast (a : Assembler) (bytes : List ℕ) : Type 0 where
  pub fresh_again : (step_of a (255 ∷ bytes)).assembler.progress ≡ fresh_progress
  pub next :
      (message : List ℕ) (ds : List (List ℕ)) → Cuts message ds
      → Delivers (replicate (length ds - 1) more) (parts ds) message (step_of a (255 ∷ bytes)).assembler

-- two parts or more come through, with 26 at the first where it cut a message off or ended a discarding; one part, a 255, would end that message or be refused
abbrev pub Recovers : Type 0
Recovers =
    (message first second : List ℕ) (ds : List (List ℕ)) (a : Assembler) → Cuts message (first ∷ second ∷ ds)
    → Delivers (pick (ready a.progress) more (refusing 26) ∷ replicate (length ds) more) (parts (first ∷ second ∷ ds)) message a

-- while discarding, every counter gets 26, and only a 255 or a kept 0 ends it
abbrev pub Discards : Type 0
Discards =
    (a : Assembler) (counter : ℕ) (bytes : List ℕ) → outside a.progress ≡ false → a.progress.discarding ≡ true
    → ((step_of a (counter ∷ bytes)).answer ≡ refusing 26)
    × ((step_of a (counter ∷ bytes)).assembler.progress.discarding ≡ not (eqb counter 255 || (eqb counter 0 && leb (length bytes) 500)))

-- ---- many messages
abbrev pub AllCut : List (List (List ℕ)) → Type 0
AllCut [] = Unit {0}
AllCut (ds ∷ dss) = Cuts (flatten ds) ds × AllCut dss

-- one behind the other, each cut in any way: they are handed out in order, and nothing else
abbrev pub AssemblesAll : Type 0
AssemblesAll =
    (dss : List (List (List ℕ))) (a : Assembler) → AllCut dss → ready a.progress ≡ true
    → handed_out (flatten (map parts dss)) a ≡ map flatten dss

-- parts cannot be read two ways: lists of messages that make the same parts are the same
abbrev pub SameMessages : Type 0
SameMessages =
    (dss ess : List (List (List ℕ))) → AllCut dss → AllCut ess → flatten (map parts dss) ≡ flatten (map parts ess)
    → map flatten dss ≡ map flatten ess
