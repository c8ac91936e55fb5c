-- What a step hands out is what document 01's table says of its byte. Assumes nothing.
use mathlib.Core.Path.{◌≡◌, refl}
use mathlib.Core.List.{List}
use mathlib.Core.Bool.{Bool, true, false}
use Prim.Native.Nat.{ℕ, ◌+◌, ◌-◌, ◌*◌}
use native.Mathlib.Omega.{arith}
use lib.ListN.{take, set}
use lib.Dec.{eqb}
use borrow.Author.Tests.{eqb-true, ne_eqb}
use Rattle.std.specs.Prelude.{Option, Some, None}
use Rattle.wire.specs.Choice.{pick}
use Rattle.wire.specs.Numbers.{num}
use Rattle.wire.proofs.Choice.{pick_all}
use Rattle.crc.specs.Crc.{crc_of}
use Rattle.line.specs.Receive.{within, busy, counted, sized, finished, stored, taken, unescaped, in_frame, step_of}
use Rattle.line.specs.Line.{Emitted, emitted, frame_gives, value_gives, escaped_gives, inside_gives, gives}
use Rattle.line.specs.declared.Progress.{Progress}
use Rattle.line.specs.declared.Receiver.{Receiver}
use Rattle.line.specs.declared.Step.{Step}
use Rattle.line.specs.declared.Event.{Event}
use Rattle.line.specs.declared.Event.TheVariants.{Refused}
use Rattle.wire.specs.declared.refusals.Refusal.TheVariants.{StartInFrame}

-- a step hands out these
record Emits (t : Step) (es : List Emitted) : Type 0 where
  same : emitted t.event t.receiver.store ≡ es

pick_emits : (t : Bool) {x y : Step} {a b : List Emitted} → Emits x a → Emits y b → Emits (pick t x y) (pick t a b)
pick_emits true p q = p
pick_emits false p q = q

pick_emitted : (t : Bool) (e f : Option Event) (s : List ℕ) → emitted (pick t e f) s ≡ pick t (emitted e s) (emitted f s)
pick_emitted true e f s = refl
pick_emitted false e f s = refl

pick_frame : (t : Bool) (e f : Event) (s : List ℕ) → emitted (Some (pick t e f)) s ≡ pick t (emitted (Some e) s) (emitted (Some f) s)
pick_frame true e f s = refl
pick_frame false e f s = refl

pub finished_gives : (size place : ℕ) (s : List ℕ) → emitted (Some (finished size place s)) s ≡ frame_gives size place s
unfolding finished frame_gives
finished_gives size place s = pick_frame (eqb (crc_of (take (size - 2) s)) (num 2 (size - 2) s)) _ _ s

-- an unescaped byte
taken_gives : (p : Progress) (s : List ℕ) (v : ℕ) → Emits (taken (counted p) s v) (value_gives p (p.count + 1) s v)
unfolding taken sized stored value_gives
taken_gives p s v =
    pick_all (λ (t : Step). Emits t (value_gives p (p.count + 1) s v)) (eqb p.got 0)
    (λ e.
    let z : p.got ≡ 0 = eqb-true _ _ e in
    let one : p.got ≡ 1 → ⊥ = omega arith in
    let last : p.got ≡ p.size + 1 → ⊥ = omega arith in
    record { same = simp (ne_eqb _ _ one, ne_eqb _ _ last) })
    (λ e. pick_emits (eqb p.got 1)
    (pick_emits (within (p.low + 256 * v)) (record { same = refl }) (record { same = refl }))
    (pick_emits (eqb p.got (p.size + 1)) (record { same = finished_gives p.size (p.count + 1) (set s (p.got - 2) v) }) (record { same = refl })))

-- a byte after 5C
unescaped_gives : (p : Progress) (s : List ℕ) (b : ℕ) → Emits (unescaped (counted p) s b) (escaped_gives p (p.count + 1) s b)
unfolding unescaped escaped_gives
unescaped_gives p s b =
    pick_all (λ (t : Step). Emits t (escaped_gives p (p.count + 1) s b)) (eqb b 0x3E)
    (λ e. rw (eqb-true b 0x3E e) (taken_gives p s 0x7E))
    (λ e. pick_all (λ (t : Step). Emits t (escaped_gives p (p.count + 1) s b)) (eqb b 0x1C)
    (λ f. rw (eqb-true b 0x1C f) (taken_gives p s 0x5C))
    (λ f. record { same = simp (e, f) }))

in_frame_gives : (p : Progress) (s : List ℕ) (b : ℕ) → eqb b 0x7E ≡ false → Emits (in_frame (counted p) s b) (inside_gives p s b)
unfolding in_frame inside_gives
in_frame_gives p s b e =
    rw e (pick_emits p.escaped (unescaped_gives p s b) (pick_emits (eqb b 0x5C) (record { same = refl }) (taken_gives p s b)))

step_emits : (r : Receiver) (b : ℕ) → Emits (step_of r b) (gives r b)
unfolding step_of gives inside_gives
step_emits r b =
    pick_all (λ (t : Step). Emits t (gives r b)) (eqb b 0x7E)
    (λ e. record { same = rw e (pick_emitted (busy r.progress) (Some (Refused StartInFrame (r.progress.count + 1))) None r.store) })
    (λ e. pick_emits (busy r.progress) (in_frame_gives r.progress r.store b e) (record { same = refl }))

-- The law: for every record and byte.
pub step_gives : (r : Receiver) (b : ℕ) → emitted (step_of r b).event (step_of r b).receiver.store ≡ gives r b
step_gives r b = (step_emits r b).same
