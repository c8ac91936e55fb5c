-- Laws of one part. Assumes nothing.
use mathlib.Core.Path.{◌≡◌, refl, sym, ap, ◌∙◌}
use mathlib.Core.Bool.{Bool, true, false, not, ◌||◌, ◌&&◌}
use mathlib.Core.List.{List, [], ◌∷◌}
use Prim.Native.Nat.{ℕ, ◌+◌, ◌-◌, ◌≤◌}
use native.Mathlib.Omega.{arith}
use lib.ListN.{length, get_or, take, drop, length-drop}
use lib.Seq.{take_all}
use lib.Dec.{eqb, leb, ltb}
use borrow.Author.Tests.{ltb-false, leb-true, le-ltb, ne_eqb}
use Rattle.wire.specs.Content.{accepted, refused}
use Rattle.wire.specs.Rules.{judge}
use Rattle.wire.specs.Writing.{Stores, no_room, placed}
use Rattle.std.specs.Prelude.{Result}
use Rattle.wire.specs.declared.refusals.Refusal.{Refusal}
use Rattle.wire.proofs.Choice.{pick_all, and_holds, or_fails}
use Rattle.multipart.specs.Assembler.{fresh_progress, holding, outside, limited, step_to, in_turn, out_of_turn, over_long, kept, counted, step_of, part_rules, length_given, answer_number, TakesPart, PartAnswer}
use Rattle.multipart.specs.declared.Assembler.{Assembler}
use Rattle.multipart.specs.declared.Step.{Step}
use Rattle.multipart.specs.declared.Progress.{Progress}

-- ---- a record outside the limits, and one within
pub limited_outside : (p q : Progress) → outside p ≡ true → q ≡ fresh_progress → (q ≡ limited p) × (q.parts ≤ 255) × (q.bytes ≤ 500)
unfolding limited
limited_outside p q e f = rw (f, e) (refl, omega arith, omega arith)

pub limited_within : (p : Progress) → outside p ≡ false → (p ≡ limited p) × (p.parts ≤ 255) × (p.bytes ≤ 500)
unfolding limited outside
limited_within p e =
    let a = or_fails (ltb 255 p.parts || ltb 500 p.bytes) (eqb p.parts 0 && ltb 0 p.bytes) e in
    let b = or_fails (ltb 255 p.parts) (ltb 500 p.bytes) a.0 in
    (rw e, ltb-false 255 p.parts b.0, ltb-false 500 p.bytes b.1)

-- ---- bytes for which there is room
pub stored : (at : ℕ) (bytes room after : List ℕ) (answer : Result ℕ Refusal) → at + length bytes ≤ length room
    → Stores (no_room at bytes room ∷ []) at bytes room answer after → after ≡ placed at bytes room
stored at bytes room after answer h w = rw (le-ltb _ _ h) at w.leaves

-- a 0 that is kept fits the store
pub first_fits : (r : Bool) (counter n : ℕ) → r ≡ (eqb counter 0 && leb n 500) → r ≡ true → 0 + n ≤ 500
first_fits r counter n e t = omega (arith, leb-true n 500 (and_holds (eqb counter 0) (leb n 500) (sym e ∙ t)).1)

-- ---- the answer's number
-- the refusals come in order
pub step_number : (a : Assembler) (part : List ℕ)
    → answer_number (step_of a part).answer ≡ judge refused (part_rules (limited a.progress) part) (accepted (length_given (limited a.progress) part))
unfolding step_of counted out_of_turn over_long kept
step_number a part =
    let p = limited a.progress in
    let counter = get_or part 0 0 in
    let P : Step → Type 0 = λ t. answer_number t.answer ≡ judge refused (part_rules p part) (accepted (length_given p part)) in
    pick_all P (eqb (length part) 0)
    (λ e. rw e)
    (λ e. pick_all P (not (in_turn p counter))
    (λ f. pick_all P (eqb counter 255) (λ g. rw (e, f))
    (λ g. pick_all P (eqb counter 0 && leb (length (drop 1 part)) 500) (λ h. rw (e, f)) (λ h. rw (e, f))))
    (λ f. pick_all P (ltb 500 (p.bytes + length (drop 1 part))) (λ g. rw (e, f, g))
    (λ g. pick_all P (eqb counter 255) (λ h. rw (e, f, g, h)) (λ h. rw (e, f, g, h)))))

-- a step that is the definition's meets the contract
pub takes_part : (a : Assembler) (part : List ℕ) (p : Progress) (s : List ℕ) (answer : PartAnswer) → step_to p s answer ≡ step_of a part
    → TakesPart a part (holding p s) answer
takes_part a part p s answer e =
    record {
      number = ap (λ (t : Step). answer_number t.answer) e ∙ step_number a part;
      answers = ap (λ (t : Step). t.answer) e;
      leaves = ap (λ (t : Step). t.assembler) e;
    }

-- a part with a counter
pub takes_counted : (a : Assembler) (part : List ℕ) (p q : Progress) (s : List ℕ) (answer : PartAnswer) → (length part ≡ 0 → ⊥) → q ≡ limited a.progress
    → step_to p s answer ≡ counted q a.store (get_or part 0 0) (take (length part - 1) (drop 1 part)) → TakesPart a part (holding p s) answer
unfolding step_of
takes_counted a part p q s answer h f e =
    takes_part a part p s answer (e ∙ rw (ne_eqb (length part) 0 h, f, take_all (length part - 1) (drop 1 part) (omega (arith, length-drop 1 part))))
