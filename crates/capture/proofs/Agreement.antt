-- What is found by looking ahead is what the receiver hands out, byte by byte. Assumes nothing.
use mathlib.Core.Path.{◌≡◌, refl, sym, ap, ap₂, ◌∙◌, subst}
use mathlib.Core.List.{List, [], ◌∷◌, ◌++◌, map, map-append}
use mathlib.Core.Bool.{Bool, true, false, ◌||◌}
use Prim.Native.Nat.{ℕ, suc, ◌+◌, ◌-◌, ◌≤◌}
use native.Mathlib.Omega.{arith}
use lib.ListN.{length, replicate, length-replicate}
use lib.Bits.{bit_xor}
use lib.Dec.{eqb}
use borrow.Author.Tests.{eqb-true}
use Rattle.std.specs.Prelude.{Some, None}
use Rattle.wire.specs.Choice.{pick}
use Rattle.wire.specs.declared.refusals.Refusal.TheVariants.{StartInFrame, BadEscape}
use Rattle.line.specs.Receive.{busy, idle, reading, after_start, holding, fresh_receiver, step_to, refused_step, taken, stored, unescaped, in_frame, step_of}
use Rattle.line.specs.Line.{Emitted, refusal, gives, run}
use Rattle.line.proofs.Moves.{reading_busy}
use Rattle.line.proofs.Delivery.{idle_busy}
use Rattle.line.specs.declared.Progress.{Progress}
use Rattle.line.specs.declared.Receiver.{Receiver}
use Rattle.line.specs.declared.Step.{Step}
use Rattle.line.specs.declared.Event.TheVariants.{Refused}
use Rattle.capture.specs.Ahead.{Ahead, start, bad_escape, before, behind_escape, ahead}
use Rattle.capture.specs.Capture.{events_ahead, behind_start, Found, found_at, found_from, decoded}
use Rattle.capture.specs.Agreement.{events_of, run_from, Agreement}
use Rattle.capture.proofs.Values.{wanted, gathers, Inside, then, Agrees, stepped, run_step, value}

-- ---- the bytes behind one that begins no frame
no_start : (at b : ℕ) (bs : List ℕ) → eqb b 0x7E ≡ false → found_from at (b ∷ bs) ≡ found_from (at + 1) bs
unfolding found_from
no_start at b bs e = simp e

-- ---- one byte more
module _ (b : ℕ) (bs : List ℕ) (ih : Agrees bs) where
  -- a start byte
  started : (at : ℕ) (s : List ℕ) → length s ≡ 512 → run_from (at + 1) bs (holding after_start s) ≡ then at (behind_start bs) (at + 1) bs
  unfolding gathers wanted behind_start
  started at s room = ih.inside at 0 0 5 1 s (record { least = omega arith; most = omega arith; more = omega arith; bounded = omega arith; room = room })

  idle_next : (at : ℕ) (p : Progress) (s : List ℕ) → busy p ≡ false → length s ≡ 512 → run_from at (b ∷ bs) (holding p s) ≡ found_from at (b ∷ bs)
  unfolding step_of found_from
  idle_next at p s t room = go (eqb b 0x7E) refl
    where
      go : (x : Bool) → eqb b 0x7E ≡ x → run_from at (b ∷ bs) (holding p s) ≡ pick x (map (found_at at) (behind_start bs)) [] ++ found_from (at + 1) bs
      go true e = run_step at _ (holding p s) b bs (step_to after_start s None) refl (simp (e, t)) ∙ started at s room
      go false e = run_step at _ (holding p s) b bs (step_to p s None) refl (simp (e, t)) ∙ ih.idly (at + 1) p s t room

  module _ (offset low got size count : ℕ) (s : List ℕ) (h : Inside low got size count s) where
    -- the record, after a 5C or not
    abbrev holds : Bool → ℕ → Receiver
    holds escaped n = holding (reading escaped low got size n) s

    is_busy : (e : Bool) (n : ℕ) → n ≤ count + 1 → busy (reading e low got size n) ≡ true
    is_busy e n le =
        reading_busy low got size count h.least h.most h.more h.bounded e n (omega (arith, h.bounded, h.more, h.most))

    -- what is found ahead, and then in the bytes from b on
    abbrev finds : ℕ → Ahead → List Found
    finds n a = then offset (events_ahead count (gathers low got size s) a) (offset + n) (b ∷ bs)

    -- b leads from one record inside the frame to a step
    steps : (e : Bool) (n : ℕ) (t : Step) → step_of (holds e n) b ≡ t → run_from (offset + n) (b ∷ bs) (holds e n) ≡ stepped offset t (offset + n + 1) bs
    steps e n t q = run_step (offset + n) offset (holds e n) b bs t (omega arith) q

    -- a start byte cuts the frame
    cuts : (e : Bool) (n : ℕ) → n ≤ count + 1 → eqb b 0x7E ≡ true
        → run_from (offset + n) (b ∷ bs) (holds e n) ≡ then offset (refusal 1 (n + 1) ∷ []) (offset + n) (b ∷ bs)
    unfolding step_of found_from
    cuts e n le q =
        steps e n (step_to after_start s (Some (Refused StartInFrame (n + 1)))) (simp (q, is_busy e n le))
        ∙ ap (λ (z : List Found). found_at offset (refusal 1 (n + 1)) ∷ z) (started (offset + n) s h.room ∙ simp q)

    -- any other byte begins no frame
    behind : (n : ℕ) (a : Ahead) {fs : List Found} → eqb b 0x7E ≡ false
        → fs ≡ then offset (events_ahead count (gathers low got size s) a) (offset + n + 1) bs → fs ≡ finds n a
    behind n a e q = q ∙ ap (λ (z : List Found). map (found_at offset) (events_ahead count (gathers low got size s) a) ++ z) (sym (no_start (offset + n) b bs e))

    -- an unescaped byte v, of w bytes on the line, of which b is the last
    values : (e : Bool) (n w v : ℕ) → w ≤ 2 → n + 1 ≡ count + w → eqb b 0x7E ≡ false
        → step_of (holds e n) b ≡ taken (reading false low got size (count + w)) s v
        → run_from (offset + n) (b ∷ bs) (holds e n) ≡ finds n (before w v (ahead (wanted got size) bs))
    values e n w v narrow k q t =
        let i : offset + n + 1 ≡ offset + (count + w) = omega arith in
        behind n (before w v (ahead (wanted got size) bs)) q
        (steps e n (taken (reading false low got size (count + w)) s v) t
        ∙ subst (λ (j : ℕ). stepped offset (taken (reading false low got size (count + w)) s v) j bs
        ≡ then offset (events_ahead count (gathers low got size s) (before w v (ahead (wanted got size) bs))) j bs) (sym i)
        (value bs ih offset low size count w v s narrow got h))

    inside_next : run_from (offset + count) (b ∷ bs) (holds false count) ≡ finds count (ahead (suc (wanted got size)) (b ∷ bs))
    unfolding ahead events_ahead step_of in_frame taken stored
    inside_next = go (eqb b 0x7E) (eqb b 0x5C) refl refl
      where
        more : List ℕ → Ahead
        more = ahead (wanted got size)

        t : busy (reading false low got size count) ≡ true
        t = is_busy false count (omega arith)

        go : (x y : Bool) → eqb b 0x7E ≡ x → eqb b 0x5C ≡ y
            → run_from (offset + count) (b ∷ bs) (holds false count) ≡ finds count (pick x (start 1) (pick y (behind_escape more bs) (before 1 b (more bs))))
        go true y e f = cuts false count (omega arith) e
        go false true e f =
            let i : offset + count + 1 ≡ offset + (count + 1) = omega arith in
            behind count (behind_escape more bs) e
            (steps false count (step_to (reading true low got size (count + 1)) s None) (simp (e, f, t))
            ∙ subst (λ (j : ℕ). run_from j bs (holds true (count + 1)) ≡ then offset (events_ahead count (gathers low got size s) (behind_escape more bs)) j bs) (sym i)
            (ih.escaped offset low got size count s h))
        go false false e f = values false count 1 b (omega arith) refl e (simp (e, f, t))

    escaped_next : run_from (offset + (count + 1)) (b ∷ bs) (holds true (count + 1)) ≡ finds (count + 1) (behind_escape (ahead (wanted got size)) (b ∷ bs))
    unfolding behind_escape events_ahead step_of in_frame unescaped taken stored
    escaped_next = go (eqb b 0x7E) (eqb b 0x3E) (eqb b 0x1C) refl refl refl
      where
        k : count + 1 + 1 ≡ count + 2
        k = omega arith

        t : busy (reading true low got size (count + 1)) ≡ true
        t = is_busy true (count + 1) (omega arith)

        -- 3E or 1C, with what it stands for
        value_of : (x v : ℕ) → b ≡ x → eqb b 0x7E ≡ false → bit_xor x 0x40 ≡ v
            → unescaped (reading true low got size (count + 1 + 1)) s x ≡ taken (reading true low got size (count + 1 + 1)) s v
            → run_from (offset + (count + 1)) (b ∷ bs) (holds true (count + 1)) ≡ finds (count + 1) (before 2 (bit_xor b 0x40) (ahead (wanted got size) bs))
        value_of x v q e m u =
            values true (count + 1) 2 (bit_xor b 0x40) (omega arith) k e
            (simp (e, t)
            (ap (unescaped (reading true low got size (count + 1 + 1)) s) q
            ∙ u
            ∙ ap₂ (λ (n y : ℕ). taken (reading false low got size n) s y) k (sym m ∙ ap (λ (y : ℕ). bit_xor y 0x40) (sym q))))

        go : (x y z : Bool) → eqb b 0x7E ≡ x → eqb b 0x3E ≡ y → eqb b 0x1C ≡ z
            → run_from (offset + (count + 1)) (b ∷ bs) (holds true (count + 1))
            ≡ finds (count + 1) (pick x (start 2) (pick (y || z) (before 2 (bit_xor b 0x40) (ahead (wanted got size) bs)) (bad_escape 2)))
        go true y z e f g =
            cuts true (count + 1) (omega arith) e
            ∙ ap (λ (n : ℕ). then offset (refusal 1 n ∷ []) (offset + (count + 1)) (b ∷ bs)) k
        go false true z e f g = value_of 0x3E 0x7E (eqb-true _ _ f) e refl refl
        go false false true e f g = value_of 0x1C 0x5C (eqb-true _ _ g) e refl refl
        go false false false e f g =
            behind (count + 1) (bad_escape 2) e
            (steps true (count + 1) (refused_step BadEscape (count + 1 + 1) s) (simp (e, t, f, g))
            ∙ ap₂ (λ (n : ℕ) (z : List Found). found_at offset (refusal 2 n) ∷ z) k (ih.idly (offset + (count + 1) + 1) idle s idle_busy h.room))

-- ---- every list of bytes
agrees : (bs : List ℕ) → Agrees bs
unfolding run_from found_from ahead behind_escape events_ahead
agrees [] = record { idly = λ at p s t r. refl; inside = λ offset low got size count s h. refl; escaped = λ offset low got size count s h. refl }
agrees (b ∷ bs) =
    let ih = agrees bs in
    record { idly = idle_next b bs ih; inside = inside_next b bs ih; escaped = escaped_next b bs ih }

-- ---- the law
-- the events that the receiver hands out, without their offsets
events_at : (at : ℕ) (es : List Emitted) → events_of (map (found_at at) es) ≡ es
events_at at [] = refl
events_at at (e ∷ es) = ap (λ (z : List Emitted). e ∷ z) (events_at at es)

pub handed_run : (at : ℕ) (bs : List ℕ) (r : Receiver) → events_of (run_from at bs r) ≡ run bs r
unfolding run_from run
handed_run at [] r = refl
handed_run at (b ∷ bs) r =
    map-append (λ (f : Found). f.event) (map (found_at (at - r.progress.count)) (gives r b)) (run_from (at + 1) bs (step_of r b).receiver)
    ∙ ap₂ (λ (x y : List Emitted). x ++ y) (events_at (at - r.progress.count) (gives r b)) (handed_run (at + 1) bs (step_of r b).receiver)

fresh_agrees : (capture : List ℕ) → decoded capture ≡ run_from 0 capture fresh_receiver
fresh_agrees capture = sym ((agrees capture).idly 0 idle (replicate 512 0) idle_busy (length-replicate {A = ℕ} 512 0))

pub agreement : Agreement
agreement =
    record {
      same = λ capture. ap events_of (fresh_agrees capture) ∙ handed_run 0 capture fresh_receiver;
      offsets = fresh_agrees;
    }
