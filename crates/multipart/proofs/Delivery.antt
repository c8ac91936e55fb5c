-- Any cutting by the rules comes through: the statements of specs/Delivery.antt. Assumes nothing.
use mathlib.Core.Path.{◌≡◌, refl, sym, ap, subst, ◌∙◌}
use mathlib.Core.Bool.{Bool, true, false, not, ◌||◌, ◌&&◌}
use mathlib.Core.List.{List, [], ◌∷◌, ◌++◌, flatten, map, append_assoc, append-nil}
use Prim.Native.Nat.{ℕ, suc, ◌+◌, ◌-◌, ◌≤◌}
use native.Mathlib.Omega.{arith}
use lib.ListN.{length, drop, replicate, length-append}
use lib.Seq.{take-append_seam, drop-append-add, drop-drop}
use lib.Dec.{eqb, leb, ltb}
use borrow.Author.Tests.{le-ltb, le-leb, eq-eqb, ne_eqb, eqb-true, ltb-false, not-true}
use Rattle.wire.specs.Choice.{pick}
use Rattle.wire.specs.Writing.{placed}
use Rattle.wire.proofs.Choice.{pick_all, and_holds, or_fails, true_false}
use Rattle.wire.proofs.Lists.{part_in}
use Rattle.multipart.specs.Cutting.{parts_from, parts, Cuts, cut_after, pieces_before, pieces, cut_image}
use Rattle.multipart.proofs.Cutting.{pieces_length, image_apart, cutter_cuts}
use Rattle.multipart.specs.Assembler.{gathered, fresh_progress, fresh_assembler, holding, outside, limited, step_to, in_turn, out_of_turn, over_long, kept, counted, step_of, message_of, PartAnswer, more, message_given}
use Rattle.multipart.specs.Delivery.{answers_to, after, handed, handed_out, ready, Gives, Delivers, Assembles, CutAssembles, BehindLast, Recovers, Discards, AssemblesAll, SameMessages}
use Rattle.multipart.specs.declared.Progress.{Progress}
use Rattle.multipart.specs.declared.Assembler.{Assembler}
use Rattle.wire.specs.Refusals.{refusing}
use Rattle.multipart.specs.declared.Step.{Step}

-- ---- the store
-- bytes behind those at the front
placed_more : (front bytes s : List ℕ) → placed (length front) bytes (placed 0 front s) ≡ placed 0 (front ++ bytes) s
placed_more front bytes s =
    let rest = drop (0 + length front) s in
    let n : 0 + length front + length bytes ≡ 0 + length (front ++ bytes) = omega (arith, length-append front bytes) in
    rw (take-append_seam front rest, drop-append-add front rest (length bytes), drop-drop (length bytes) (0 + length front) s, n)
    (sym (append_assoc front bytes (drop (0 + length (front ++ bytes)) s)))

-- what stands at the front is read there
stands_front : (message s : List ℕ) → message_of (placed 0 message s) (length message) ≡ message
stands_front message s =
    let rest = drop (0 + length message) s in
    part_in (message ++ rest) 0 (length message) (omega (arith, length-append message rest)) ∙ take-append_seam message rest

-- ---- the record
-- one that is ready is taken as fresh
pub ready_fresh : (p : Progress) → ready p ≡ true → limited p ≡ fresh_progress
unfolding ready limited outside
ready_fresh p e = go (outside p) refl
  where
    idle : outside p ≡ false → (p.parts ≡ 0) × (p.bytes ≡ 0) × (p.discarding ≡ false)
    idle f =
        let a = and_holds (eqb p.parts 0) (not p.discarding) (rw f at e) in
        let n = eqb-true p.parts 0 a.0 in
        let b = or_fails (ltb 255 p.parts || ltb 500 p.bytes) (eqb p.parts 0 && ltb 0 p.bytes) f in
        (n, omega (arith, ltb-false 0 p.bytes (rw (eq-eqb p.parts 0 n) at b.1)), not-true p.discarding a.1)

    go : (t : Bool) → outside p ≡ t → limited p ≡ fresh_progress
    go true f = rw f
    go false f = rw (f, (idle f).0, (idle f).1, (idle f).2)

-- counts within the limits stay
gathered_within : (k n : ℕ) → k + 1 ≤ 255 → n ≤ 500 → limited (gathered (k + 1) n) ≡ gathered (k + 1) n
unfolding limited outside
gathered_within k n h g = simp (le-ltb 255 (k + 1) h, le-ltb 500 n g, ne_eqb (k + 1) 0 (λ e. omega arith))

-- ---- one part
counted_part : (a : Assembler) (k : ℕ) (bytes : List ℕ) → step_of a (k ∷ bytes) ≡ counted (limited a.progress) a.store k bytes
unfolding step_of
counted_part a k bytes = rw (ne_eqb (length (k ∷ bytes)) 0 (λ z. omega arith))

-- in turn, behind what stands at the front of the store
module _ (k : ℕ) (front bytes s : List ℕ) (p : Progress) (e : limited p ≡ gathered k (length front)) (fits : length (front ++ bytes) ≤ 500) where
  next_kept : k ≤ 254
      → step_of (holding p (placed 0 front s)) (k ∷ bytes) ≡ step_to (gathered (k + 1) (length (front ++ bytes))) (placed 0 (front ++ bytes) s) more
  unfolding counted in_turn kept
  next_kept h =
      counted_part (holding p (placed 0 front s)) k bytes
      ∙ rw (e, ne_eqb k 255 (λ z. omega arith), eq-eqb k k refl)
      (rw (placed_more front bytes s, sym (length-append front bytes), le-ltb 500 (length (front ++ bytes)) fits))

  last_kept : step_of (holding p (placed 0 front s)) (255 ∷ bytes) ≡ step_to fresh_progress (placed 0 (front ++ bytes) s) (message_given (length (front ++ bytes)))
  unfolding counted in_turn kept
  last_kept =
      counted_part (holding p (placed 0 front s)) 255 bytes
      ∙ rw (e, placed_more front bytes s, sym (length-append front bytes), le-ltb 500 (length (front ++ bytes)) fits)

-- a first part where something is gathered or discarded
first_kept : (bytes s : List ℕ) (p : Progress) → ready p ≡ false → length bytes ≤ 500
    → step_of (holding p s) (0 ∷ bytes) ≡ step_to (gathered 1 (length bytes)) (placed 0 bytes s) (refusing 26)
unfolding ready limited counted in_turn out_of_turn
first_kept bytes s p e h =
    let a = or_fails (outside p) (eqb p.parts 0 && not p.discarding) e in
    counted_part (holding p s) 0 bytes ∙ rw (a.0, turn p.discarding a.1, le-leb (length bytes) 500 h)
  where
    turn : (t : Bool) → (eqb p.parts 0 && not t) ≡ false → (not t && (eqb 0 255 || eqb 0 p.parts)) ≡ false
    turn true f = refl
    turn false f = ne_eqb 0 p.parts (λ z. true_false (rw (eq-eqb p.parts 0 (sym z)) at f))

-- ---- many parts
gives_none : (a : Assembler) → Gives [] a [] [] a
unfolding answers_to after handed_out
gives_none a = record { answered = refl; hands = refl; leaves = refl }

gives_more : {ps : List (List ℕ)} {given : List PartAnswer} {out : List (List ℕ)} {a a' : Assembler} {part : List ℕ} (t : Step) → step_of a part ≡ t
    → Gives ps t.assembler given out a' → Gives (part ∷ ps) a (t.answer ∷ given) (handed t.answer t.assembler.store ++ out) a'
unfolding answers_to after handed_out
gives_more t e g = record { answered = rw (e, g.answered); hands = rw (e, g.hands); leaves = rw (e, g.leaves) }

-- from a counter on, behind what stands at the front of the store
module _ (message s : List ℕ) (fits : length message ≤ 500) where
  gives_from : (ds : List (List ℕ)) (d : List ℕ) (k : ℕ) (front : List ℕ) (p : Progress) → limited p ≡ gathered k (length front)
      → k + length ds ≤ 255 → front ++ flatten (d ∷ ds) ≡ message
      → Gives (parts_from k (d ∷ ds)) (holding p (placed 0 front s)) (replicate (length ds) more ++ (message_given (length message) ∷ [])) (message ∷ [])
      (holding fresh_progress (placed 0 message s))
  unfolding parts_from flatten
  gives_from [] d k front p e h q =
      let m : front ++ d ≡ message = ap (λ (l : List ℕ). front ++ l) (sym (append-nil d)) ∙ q in
      let t = last_kept k front d s p e (omega (arith, ap length m)) in
      let g = gives_more (step_to fresh_progress (placed 0 message s) (message_given (length message))) (t ∙ rw m) (gives_none (holding fresh_progress (placed 0 message s))) in
      rw (stands_front message s) at g
  gives_from (d' ∷ ds) d k front p e h q =
      let m = append_assoc front d (flatten (d' ∷ ds)) ∙ q in
      let fit : length (front ++ d) ≤ 500 = omega (arith, ap length m, length-append (front ++ d) (flatten (d' ∷ ds))) in
      gives_more _ (next_kept k front d s p e fit (omega arith))
      (gives_from ds d' (k + 1) (front ++ d) _ (gathered_within k (length (front ++ d)) (omega arith) fit) (omega arith) m)

-- ---- one message
pub assembles : Assembles
assembles message [] a c e = absurd (omega (arith, c.some))
assembles message (d ∷ ds) a c e =
    let n : length (d ∷ ds) - 1 ≡ length ds = omega arith in
    rw n (gives_from message a.store c.fits ds d 0 [] a.progress (ready_fresh a.progress e) (omega (arith, c.most)) c.joined)

-- it is read from the store behind its parts
pub stands : (message : List ℕ) (ds : List (List ℕ)) (a : Assembler) → Cuts message ds → ready a.progress ≡ true
    → message_of (after (parts ds) a).store (length message) ≡ message
stands message ds a c e =
    ap (λ (b : Assembler). message_of b.store (length message)) (assembles message ds a c e).leaves ∙ stands_front message a.store

pub cut_assembles : CutAssembles
unfolding cut_image
cut_assembles size message room left answer a e w r =
    let c = cutter_cuts size message room left answer e w in
    let n : length (pieces size message) - 1 ≡ pieces_before size (length message) = omega (arith, pieces_length size message) in
    let N : ℕ = pieces_before size (length message) in
    subst (λ (ps : List (List ℕ)). Delivers (replicate N more) ps message a) (sym (ap (cut_after N (size + 1)) c.1 ∙ image_apart size message))
    (rw n at (assembles message (pieces size message) a c.2 r))

-- ---- from any record
fresh_behind : (a : Assembler) (bytes : List ℕ) → (step_of a (255 ∷ bytes)).assembler.progress ≡ fresh_progress
unfolding counted out_of_turn over_long kept
fresh_behind a bytes =
    let p = limited a.progress in
    let P : Step → Type 0 = λ t. t.assembler.progress ≡ fresh_progress in
    subst P (sym (counted_part a 255 bytes))
    (pick_all P (not (in_turn p 255)) (λ e. refl) (λ e. pick_all P (ltb 500 (p.bytes + length bytes)) (λ f. refl) (λ f. refl)))

pub behind_last : (a : Assembler) (bytes : List ℕ) → BehindLast a bytes
unfolding ready outside
behind_last a bytes =
    record {
      fresh_again = fresh_behind a bytes;
      next = λ message ds c. assembles message ds (step_of a (255 ∷ bytes)).assembler c (ap ready (fresh_behind a bytes));
    }

pub recovers : Recovers
unfolding parts_from flatten
recovers message first second ds a c = go (ready a.progress) refl
  where
    go : (t : Bool) → ready a.progress ≡ t
        → Delivers (pick t more (refusing 26) ∷ replicate (length ds) more) (parts (first ∷ second ∷ ds)) message a
    go true e = let n : length (first ∷ second ∷ ds) - 1 ≡ suc (length ds) = omega arith in rw n at (assembles message (first ∷ second ∷ ds) a c e)
    go false e =
        let fit : length first ≤ 500 = omega (arith, c.fits, ap length c.joined, length-append first (flatten (second ∷ ds))) in
        gives_more _ (first_kept first a.store a.progress e fit)
        (gives_from message a.store c.fits ds second 1 first _ (gathered_within 0 (length first) (omega arith) fit) (omega (arith, c.most)) c.joined)

pub discards : Discards
unfolding limited counted in_turn out_of_turn
discards a counter bytes o d =
    let P : Step → Type 0 = λ t.
    (t.answer ≡ refusing 26) × (t.assembler.progress.discarding ≡ not (eqb counter 255 || (eqb counter 0 && leb (length bytes) 500))) in
    subst P (sym (counted_part a counter bytes))
    (rw (o, d)
    (pick_all P (eqb counter 255) (λ e. (refl, rw e))
    (λ e. pick_all P (eqb counter 0 && leb (length bytes) 500) (λ f. (refl, rw (e, f))) (λ f. (refl, rw (e, f))))))

-- ---- many messages
handed_append : (ps qs : List (List ℕ)) (a : Assembler) → handed_out (ps ++ qs) a ≡ handed_out ps a ++ handed_out qs (after ps a)
unfolding handed_out after
handed_append [] qs a = refl
handed_append (p ∷ ps) qs a =
    let t = step_of a p in
    ap (λ (l : List (List ℕ)). handed t.answer t.assembler.store ++ l) (handed_append ps qs t.assembler)
    ∙ sym (append_assoc (handed t.answer t.assembler.store) (handed_out ps t.assembler) (handed_out qs (after ps t.assembler)))

pub assembles_all : AssemblesAll
unfolding handed_out flatten ready outside
assembles_all [] a c e = refl
assembles_all (ds ∷ dss) a c e =
    let d = assembles (flatten ds) ds a c.0 e in
    let rest = assembles_all dss (after (parts ds) a) c.1 (ap (λ (b : Assembler). ready b.progress) d.leaves) in
    handed_append (parts ds) (flatten (map parts dss)) a ∙ rw (d.hands, rest)

pub same_messages : SameMessages
unfolding ready outside
same_messages dss ess c d e =
    sym (assembles_all dss fresh_assembler c refl) ∙ ap (λ (ps : List (List ℕ)). handed_out ps fresh_assembler) e ∙ assembles_all ess fresh_assembler d refl
