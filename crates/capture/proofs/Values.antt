-- What the receiver hands out inside a frame, where an unescaped byte comes: what is found by looking ahead. Assumes nothing.
use mathlib.Core.Path.{◌≡◌, refl, sym, ap, ap₂, ◌∙◌, subst}
use mathlib.Core.List.{List, [], ◌∷◌, ◌++◌, append_assoc, map}
use mathlib.Core.Bool.{Bool, true, false}
use Prim.Native.Nat.{ℕ, suc, ◌+◌, ◌-◌, ◌*◌, ◌≤◌, ◌<◌}
use native.Mathlib.Omega.{arith}
use lib.ListN.{length, take, set, length-set}
use lib.Seq.{take-suc-set}
use lib.Dec.{eqb}
use borrow.Author.Tests.{eq-eqb, ne_eqb, eqb-true, eqb-false}
use Rattle.std.specs.Prelude.{Some, None}
use Rattle.wire.specs.Choice.{pick}
use Rattle.wire.specs.declared.refusals.Refusal.TheVariants.{BadFrameSize}
use Rattle.wire.specs.Numbers.{num}
use Rattle.line.specs.Receive.{within, busy, idle, reading, holding, step_to, refused_step, taken, stored, finished, step_of, sized as sizedStep}
use Rattle.line.specs.Feed.{CountBounded}
use Rattle.line.specs.Line.{Emitted, refusal, emitted}
use Rattle.line.proofs.Gives.{finished_gives, step_gives}
use Rattle.line.proofs.Moves.{within_limits}
use Rattle.line.proofs.Delivery.{idle_busy}
use Rattle.line.specs.declared.Progress.{Progress}
use Rattle.line.specs.declared.Receiver.{Receiver}
use Rattle.line.specs.declared.Step.{Step}
use Rattle.capture.specs.Ahead.{Ahead, whole, start, bad_escape, end, before, behind_escape, ahead}
use Rattle.capture.specs.Capture.{events_ahead, checked, sized, Found, found_at, found_from}
use Rattle.capture.specs.Agreement.{run_from}
use Rattle.capture.proofs.Frames.{frame_front}

-- ---- what is found from one unescaped byte further back
found_before : (place w v : ℕ) (give : ℕ → List ℕ → List ℕ → List Emitted) (a : Ahead)
    → events_ahead place give (before w v a) ≡ events_ahead (place + w) (λ n vs rest. give n (v ∷ vs) rest) a
unfolding events_ahead before
found_before place w v give (whole n vs rest) = let e : place + (w + n) ≡ place + w + n = omega arith in ap (λ (k : ℕ). give k (v ∷ vs) rest) e
found_before place w v give (start n) = let e : place + (w + n) ≡ place + w + n = omega arith in ap (λ (k : ℕ). refusal 1 k ∷ []) e
found_before place w v give (bad_escape n) = let e : place + (w + n) ≡ place + w + n = omega arith in ap (λ (k : ℕ). refusal 2 k ∷ []) e
found_before place w v give end = refl

found_same : (place : ℕ) (f g : ℕ → List ℕ → List ℕ → List Emitted) → ((n : ℕ) (vs rest : List ℕ) → f n vs rest ≡ g n vs rest)
    → (a : Ahead) → events_ahead place f a ≡ events_ahead place g a
unfolding events_ahead
found_same place f g h (whole n vs rest) = h (place + n) vs rest
found_same place f g h (start n) = refl
found_same place f g h (bad_escape n) = refl
found_same place f g h end = refl

-- ---- a record inside a frame: how many unescaped bytes it waits for beside the next one, and what they give with those that it has
unfoldable pub wanted : ℕ → ℕ → ℕ
wanted got size = pick (eqb got 0) 1 (pick (eqb got 1) 0 (size + 1 - got))

unfoldable pub gathers : ℕ → ℕ → ℕ → List ℕ → ℕ → List ℕ → List ℕ → List Emitted
gathers low got size s place vs rest =
    pick (eqb got 0) (sized (num 2 0 vs) place rest) (pick (eqb got 1) (sized (num 2 0 (low ∷ vs)) place rest) (checked size place (take (got - 2) s ++ vs)))

pub record Inside (low got size count : ℕ) (s : List ℕ) : Type 0 where
  pub least : 5 ≤ size
  pub most : size ≤ 512
  pub more : got < size + 2
  pub bounded : CountBounded (reading false low got size count)
  pub room : length s ≡ 512

-- what is found in the frame whose start byte has an offset, and then in the bytes from another offset on
abbrev pub then : ℕ → List Emitted → ℕ → List ℕ → List Found
then offset es at bs = map (found_at offset) es ++ found_from at bs

-- the receiver hands out what is found ahead: idle, inside a frame whose start byte has an offset, and inside one behind a 5C
pub record Agrees (bs : List ℕ) : Type 0 where
  pub idly : (at : ℕ) (p : Progress) (s : List ℕ) → busy p ≡ false → length s ≡ 512 → run_from at bs (holding p s) ≡ found_from at bs
  pub inside : (offset low got size count : ℕ) (s : List ℕ) → Inside low got size count s
      → run_from (offset + count) bs (holding (reading false low got size count) s)
      ≡ then offset (events_ahead count (gathers low got size s) (ahead (suc (wanted got size)) bs)) (offset + count) bs
  pub escaped : (offset low got size count : ℕ) (s : List ℕ) → Inside low got size count s
      → run_from (offset + (count + 1)) bs (holding (reading true low got size (count + 1)) s)
      ≡ then offset (events_ahead count (gathers low got size s) (behind_escape (ahead (wanted got size)) bs)) (offset + (count + 1)) bs

-- ---- a step inside the frame whose start byte has an offset, and the bytes behind it, from another offset on
abbrev pub stepped : ℕ → Step → ℕ → List ℕ → List Found
stepped offset t at bs = map (found_at offset) (emitted t.event t.receiver.store) ++ run_from at bs t.receiver

pub run_step : (at offset : ℕ) (r : Receiver) (b : ℕ) (bs : List ℕ) (t : Step) → at - r.progress.count ≡ offset → step_of r b ≡ t
    → run_from at (b ∷ bs) r ≡ stepped offset t (at + 1) bs
unfolding run_from
run_step at offset r b bs t o e =
    ap₂ (λ (n : ℕ) (z : List Emitted). map (found_at n) z ++ run_from (at + 1) bs (step_of r b).receiver) o (sym (step_gives r b))
    ∙ ap (λ (x : Step). stepped offset x (at + 1) bs) e

-- ---- an unescaped byte v, w bytes on the line
module _ (bs : List ℕ) (ih : Agrees bs) (offset low size count w v : ℕ) (s : List ℕ) (narrow : w ≤ 2) where
  -- the offset of the byte behind it
  abbrev next : ℕ
  next = offset + (count + w)

  abbrev Value : ℕ → Type 0
  Value got =
      Inside low got size count s
      → stepped offset (taken (reading false low got size (count + w)) s v) next bs
      ≡ then offset (events_ahead count (gathers low got size s) (before w v (ahead (wanted got size) bs))) next bs

  -- the size's low byte
  value_low : Value 0
  unfolding taken gathers wanted
  value_low h =
      ih.inside offset v 1 size (count + w) s
      (record { least = h.least; most = h.most; more = omega (arith, h.least); bounded = omega (arith, h.bounded); room = h.room })
      ∙ ap (λ (z : List Emitted). then offset z next bs) (sym (found_before count w v (gathers low 0 size s) (ahead 1 bs)))

  -- its high byte
  size_agrees : (n : ℕ) (t : Bool) → within n ≡ t → count + w ≤ 5 → length s ≡ 512
      → stepped offset (pick t (step_to (reading false 0 2 n (count + w)) s None) (refused_step BadFrameSize (count + w) s)) next bs
      ≡ then offset (pick t (events_ahead (count + w) (λ place vs rest. checked n place vs) (ahead n bs)) (refusal 3 (count + w) ∷ [])) next bs
  unfolding gathers wanted
  size_agrees n true e hc room =
      let l = within_limits n e in
      let k : suc (n + 1 - 2) ≡ n = omega (arith, l.0) in
      ih.inside offset 0 2 n (count + w) s (record { least = l.0; most = l.1; more = omega (arith, l.0); bounded = omega arith; room = room })
      ∙ ap (λ (m : ℕ). then offset (events_ahead (count + w) (λ place vs rest. checked n place vs) (ahead m bs)) next bs) k
  size_agrees n false e hc room = ap (λ (z : List Found). found_at offset (refusal 3 (count + w)) ∷ z) (ih.idly next idle s idle_busy room)

  value_high : Value 1
  unfolding taken sizedStep gathers wanted events_ahead before ahead sized
  value_high h =
      let k : count + (w + 0) ≡ count + w = omega arith in
      let n : ℕ = low + 256 * v in
      size_agrees n (within n) refl (omega (arith, h.bounded)) h.room
      ∙ ap (λ (c : ℕ). then offset (pick (within n) (events_ahead c (λ place vs rest. checked n place vs) (ahead n bs)) (refusal 3 c ∷ [])) next bs) (sym k)

  -- a byte behind the size
  module _ (got : ℕ) (behind-size : 2 ≤ got) where
    got_0 : eqb got 0 ≡ false
    got_0 = ne_eqb _ _ (let z : got ≡ 0 → ⊥ = omega arith in z)

    got_1 : eqb got 1 ≡ false
    got_1 = ne_eqb _ _ (let z : got ≡ 1 → ⊥ = omega arith in z)

    body_wanted : wanted got size ≡ size + 1 - got
    unfolding wanted
    body_wanted = simp (got_0, got_1)

    body_gathers : (l : List ℕ) (n : ℕ) (vs rest : List ℕ) → gathers low got size l n vs rest ≡ checked size n (take (got - 2) l ++ vs)
    unfolding gathers
    body_gathers l n vs rest = simp (got_0, got_1)

    taken_body : (c : ℕ) (t : Bool) → eqb got (size + 1) ≡ t
        → taken (reading false low got size c) s v
        ≡ pick t (step_to idle (set s (got - 2) v) (Some (finished size c (set s (got - 2) v)))) (step_to (reading false low (got + 1) size c) (set s (got - 2) v) None)
    unfolding taken stored
    taken_body c t e = simp (got_0, got_1, e)

  -- one that is not the last
  value_more : (got : ℕ) → 2 ≤ got → (got ≡ size + 1 → ⊥) → Value got
  unfolding events_ahead
  value_more got h2 n h =
      let s' : List ℕ = set s (got - 2) v in
      let c : ℕ = count + w in
      let g : ℕ → List ℕ → List ℕ → List Emitted = λ n vs rest. gathers low got size s n (v ∷ vs) rest in
      let k : suc (size + 1 - (got + 1)) ≡ size + 1 - got = omega (arith, h.more) in
      let m : suc (wanted (got + 1) size) ≡ wanted got size = ap suc (body_wanted (got + 1) (omega arith)) ∙ k ∙ sym (body_wanted got h2) in
      let i : got + 1 - 2 ≡ suc (got - 2) = omega arith in
      let t : take (got + 1 - 2) s' ≡ take (got - 2) s ++ (v ∷ []) =
      ap (λ (j : ℕ). take j s') i ∙ take-suc-set s (got - 2) v (omega (arith, h.more, h.most, h.room)) in
      let same : (n : ℕ) (vs rest : List ℕ) → gathers low (got + 1) size s' n vs rest ≡ g n vs rest =
      λ n vs rest.
      body_gathers (got + 1) (omega arith) s' n vs rest
      ∙ ap (checked size n) (ap (λ (l : List ℕ). l ++ vs) t ∙ append_assoc (take (got - 2) s) (v ∷ []) vs)
      ∙ sym (body_gathers got h2 s n (v ∷ vs) rest) in
      ap (λ (x : Step). stepped offset x next bs) (taken_body got h2 c false (ne_eqb _ _ n))
      ∙ ih.inside offset low (got + 1) size c s'
      (record {
        least = h.least;
        most = h.most;
        more = omega (arith, h.more);
        bounded = omega (arith, h.bounded);
        room = length-set s (got - 2) v ∙ h.room;
      })
      ∙ ap (λ (z : List Emitted). then offset z next bs)
      (found_same c (gathers low (got + 1) size s') g same (ahead (suc (wanted (got + 1) size)) bs)
      ∙ ap (λ (j : ℕ). events_ahead c g (ahead j bs)) m
      ∙ sym (found_before count w v (gathers low got size s) (ahead (wanted got size) bs)))

  -- the last
  value_last : (got : ℕ) → 2 ≤ got → got ≡ size + 1 → Value got
  unfolding events_ahead before ahead
  value_last got h2 l h =
      let c : ℕ = count + w in
      let j : ℕ = got - 2 in
      let s' : List ℕ = set s j v in
      let k : count + (w + 0) ≡ c = omega arith in
      let z : wanted got size ≡ 0 = body_wanted got h2 ∙ (let e : size + 1 - got ≡ 0 = omega arith in e) in
      let below : j < length s = omega (arith, h.most, h.room) in
      let front : take size s' ≡ take j s ++ (v ∷ []) = ap (λ (i : ℕ). take i s') (let e : size ≡ suc j = omega arith in e) ∙ take-suc-set s j v below in
      let room : length s' ≡ 512 = length-set s j v ∙ h.room in
      ap (λ (x : Step). stepped offset x next bs) (taken_body got h2 c true (eq-eqb _ _ l))
      ∙ ap₂ (λ (x : List Emitted) (y : List Found). map (found_at offset) x ++ y) (finished_gives size c s')
      (ih.idly next idle s' idle_busy room)
      ∙ ap (λ (x : List Emitted). then offset x next bs)
      (frame_front size c s' h.least h.most (omega arith)
      ∙ ap₂ (checked size) (sym k) front
      ∙ sym (body_gathers got h2 s (count + (w + 0)) (v ∷ []) bs)
      ∙ ap (λ (m : ℕ). events_ahead count (gathers low got size s) (before w v (ahead m bs))) (sym z))

  pub value : (got : ℕ) → Value got
  value got = go (eqb got 0) (eqb got 1) (eqb got (size + 1)) refl refl refl
    where
      go : (x y z : Bool) → eqb got 0 ≡ x → eqb got 1 ≡ y → eqb got (size + 1) ≡ z → Value got
      go true y z e f g = subst Value (sym (eqb-true _ _ e)) value_low
      go false true z e f g = subst Value (sym (eqb-true _ _ f)) value_high
      go false false true e f g = value_last got (omega (arith, eqb-false got 0 e, eqb-false got 1 f)) (eqb-true _ _ g)
      go false false false e f g = value_more got (omega (arith, eqb-false got 0 e, eqb-false got 1 f)) (eqb-false _ _ g)
