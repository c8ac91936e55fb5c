-- A step is a move and the action that it names, and each move keeps to the limits. Assumes nothing.
use mathlib.Core.Path.{◌≡◌, refl, sym, ap, ap₂, ◌∙◌, subst}
use mathlib.Core.List.{List}
use mathlib.Core.Bool.{Bool, true, false, ◌&&◌}
use Prim.Native.Nat.{ℕ, ◌+◌, ◌-◌, ◌*◌, ◌≤◌, ◌<◌}
use native.Mathlib.Omega.{arith}
use lib.Dec.{leb, ltb, eqb}
use borrow.Author.Tests.{leb-true, ltb-true, eqb-true, eqb-false, ne_eqb, le-leb, lt-ltb}
use Rattle.std.specs.Prelude.{Option, Some, None}
use Rattle.wire.specs.Choice.{pick}
use Rattle.wire.proofs.Choice.{pick_all, and_holds}
use Rattle.line.specs.Receive.{within, mid_frame, busy, counted, sized, stored, taken, unescaped, in_frame, step_of, reading, after_start, holding, step_to}
use Rattle.line.specs.Feed.{CountBounded}
use Rattle.line.specs.Moves.{sized_move, stored_move, taken_move, unescaped_move, in_frame_move, move_of, keep, WithinLimits, acted, store_after, event_of, ActsOn}
use Rattle.line.specs.declared.Action.{Action}
use Rattle.line.specs.declared.Action.TheVariants.{Keep, Put, Refuse}
use Rattle.line.specs.declared.Progress.{Progress}
use Rattle.line.specs.declared.Move.{Move}
use Rattle.line.specs.declared.Receiver.{Receiver}
use Rattle.line.specs.declared.Event.{Event}
use Rattle.line.specs.declared.Event.TheVariants.{Refused}
use Rattle.wire.specs.declared.refusals.Refusal.TheVariants.{StartInFrame}
use Rattle.line.specs.declared.Step.{Step}

-- ---- the counts of a record that is inside a frame
pub within_limits : (size : ℕ) → within size ≡ true → (5 ≤ size) × (size ≤ 512)
within_limits size t = let l = and_holds (leb 5 size) (leb size 512) t in (leb-true _ _ l.0, leb-true _ _ l.1)

pub record Counts (p : Progress) : Type 0 where
  pub inside : p.inside ≡ true
  pub least : 5 ≤ p.size
  pub most : p.size ≤ 512
  pub more : p.got < p.size + 2

pub mid_frame_counts : (p : Progress) → mid_frame p ≡ true → Counts p
unfolding mid_frame
mid_frame_counts p t =
    let q = and_holds p.inside (within p.size && ltb p.got (p.size + 2)) t in
    let w = and_holds (within p.size) (ltb p.got (p.size + 2)) q.1 in
    let l = within_limits p.size w.0 in
    record { inside = q.0; least = l.0; most = l.1; more = ltb-true _ _ w.1 }

pub busy_counts : (p : Progress) → busy p ≡ true → Counts p × (p.count < 1029)
unfolding busy
busy_counts p t =
    let q = and_holds (mid_frame p) (ltb p.count 1029) t in
    (mid_frame_counts p q.0, ltb-true _ _ q.1)

-- ---- the action of a move is within the limits
MoveWithin : Move → Type 0
MoveWithin m = WithinLimits m.action

taken_within : (p : Progress) (v : ℕ) → 5 ≤ p.size → p.size ≤ 512 → p.got < p.size + 2 → MoveWithin (taken_move p v)
unfolding taken_move sized_move stored_move MoveWithin
taken_within p v h5 h512 hg =
    pick_all MoveWithin (eqb p.got 0) (λ e. tt)
    (λ e0. pick_all MoveWithin (eqb p.got 1) (λ e. pick_all MoveWithin (within (p.low + 256 * v)) (λ w. tt) (λ w. tt))
    (λ e1. pick_all MoveWithin (eqb p.got (p.size + 1))
    (λ e. let g : p.got ≡ p.size + 1 = eqb-true _ _ e in (omega arith, h5, h512))
    (λ e. let g : p.got ≡ p.size + 1 → ⊥ = eqb-false _ _ e in omega arith)))

start_within : (p : Progress) (t : Bool) (place : ℕ) → MoveWithin (record { progress = p; action = pick t (Refuse StartInFrame place) Keep })
unfolding MoveWithin
start_within p true place = tt
start_within p false place = tt

move_within : (p : Progress) (b : ℕ) → MoveWithin (move_of p b)
unfolding move_of in_frame_move unescaped_move MoveWithin
move_within p b =
    pick_all MoveWithin (eqb b 0x7E) (λ e. start_within after_start (busy p) (p.count + 1))
    (λ e. pick_all MoveWithin (busy p)
    (λ t.
    let k = (busy_counts p t).0 in
    let value : (v : ℕ) → MoveWithin (taken_move (counted p) v) = λ v. taken_within (counted p) v k.least k.most k.more in
    pick_all MoveWithin p.escaped
    (λ s. pick_all MoveWithin (eqb b 0x3E)
    (λ x. value 0x7E)
    (λ x. pick_all MoveWithin (eqb b 0x1C) (λ y. value 0x5C) (λ y. tt)))
    (λ s. pick_all MoveWithin (eqb b 0x5C) (λ x. tt) (λ x. value b)))
    (λ t. tt))

pub move_limits : (p : Progress) (b : ℕ) (m : Move) → m ≡ move_of p b → WithinLimits m.action
unfolding MoveWithin
move_limits p b m e = subst MoveWithin (sym e) (move_within p b)

-- ---- a step is a move, acted on
record IsActed (s : List ℕ) (x : Step) (m : Move) : Type 0 where
  same : x ≡ acted m s

is_acted : {s : List ℕ} (m : Move) → IsActed s (acted m s) m
is_acted m = record { same = refl }

pick_acted : {s : List ℕ} (t : Bool) {x y : Step} {m n : Move} → IsActed s x m → IsActed s y n → IsActed s (pick t x y) (pick t m n)
pick_acted true p q = p
pick_acted false p q = q

taken_acted : (p : Progress) (s : List ℕ) (v : ℕ) → IsActed s (taken p s v) (taken_move p v)
unfolding taken sized stored taken_move sized_move stored_move
taken_acted p s v =
    pick_acted (eqb p.got 0) (is_acted _)
    (pick_acted (eqb p.got 1)
    (pick_acted (within (p.low + 256 * v)) (is_acted _) (is_acted _))
    (pick_acted (eqb p.got (p.size + 1)) (is_acted _) (is_acted _)))

in_frame_acted : (p : Progress) (s : List ℕ) (b : ℕ) → IsActed s (in_frame p s b) (in_frame_move p b)
unfolding in_frame unescaped in_frame_move unescaped_move
in_frame_acted p s b =
    pick_acted p.escaped
    (pick_acted (eqb b 0x3E) (taken_acted p s 0x7E) (pick_acted (eqb b 0x1C) (taken_acted p s 0x5C) (is_acted _)))
    (pick_acted (eqb b 0x5C) (is_acted _) (taken_acted p s b))

start_acted : (s : List ℕ) (t : Bool) (place : ℕ)
    → IsActed s (step_to after_start s (pick t (Some (Refused StartInFrame place)) None)) (record { progress = after_start; action = pick t (Refuse StartInFrame place) Keep })
start_acted s true place = record { same = refl }
start_acted s false place = record { same = refl }

step_acted : (r : Receiver) (b : ℕ) → IsActed r.store (step_of r b) (move_of r.progress b)
unfolding step_of move_of
step_acted r b =
    pick_acted (eqb b 0x7E) (start_acted r.store (busy r.progress) (r.progress.count + 1))
    (pick_acted (busy r.progress) (in_frame_acted (counted r.progress) r.store b) (is_acted _))

pub step_moves : (r : Receiver) (b : ℕ) → step_of r b ≡ acted (move_of r.progress b) r.store
step_moves r b = (step_acted r b).same

-- an action done, where it is known which
pub acts_on : (a x : Action) (s : List ℕ) (e : Option Event) → a ≡ x → e ≡ event_of x (store_after x s) → ActsOn a s (store_after x s) e
acts_on a x s e h q = subst (λ (y : Action). ActsOn y s (store_after x s) e) (sym h) (record { store = refl; event = q })

-- a step, from a move and what was done with the store
pub stepped : (p : Progress) (b : ℕ) (s : List ℕ) (m : Move) (l : List ℕ) (e : Option Event)
    → m ≡ move_of p b → ActsOn m.action s l e → step_to m.progress l e ≡ step_of (holding p s) b
stepped p b s m l e h o =
    ap₂ (λ (x : List ℕ) (y : Option Event). step_to m.progress x y) o.store o.event
    ∙ ap (λ (x : Move). acted x s) h
    ∙ sym (step_moves (holding p s) b)

-- ---- moves inside a frame, from a count that is bounded
module _ (low got size count : ℕ) (h5 : 5 ≤ size) (h512 : size ≤ 512) (hg : got < size + 2) (hc : CountBounded (reading false low got size count)) where
  -- the byte and one more are below the limit
  below_limit : count + 1 < 1029
  below_limit = omega arith

  pub reading_busy : (e : Bool) (n : ℕ) → n < 1029 → busy (reading e low got size n) ≡ true
  unfolding busy mid_frame
  reading_busy e n h = simp (le-leb _ _ h5, le-leb _ _ h512, lt-ltb _ _ hg, lt-ltb _ _ h)

  -- one that is no mark
  pub move_plain : (v : ℕ) → (v ≡ 0x7E → ⊥) → (v ≡ 0x5C → ⊥) → move_of (reading false low got size count) v ≡ taken_move (reading false low got size (count + 1)) v
  unfolding move_of in_frame_move
  move_plain v p q = simp (ne_eqb _ _ p, reading_busy false count (omega arith), ne_eqb _ _ q)

  pub move_mark : move_of (reading false low got size count) 0x5C ≡ keep (reading true low got size (count + 1))
  unfolding move_of in_frame_move
  move_mark = simp (reading_busy false count (omega arith))

  -- and what comes behind 5C
  pub move_3_e : move_of (reading true low got size (count + 1)) 0x3E ≡ taken_move (reading false low got size (count + 2)) 0x7E
  unfolding move_of in_frame_move unescaped_move taken_move stored_move
  move_3_e = let e : count + 1 + 1 ≡ count + 2 = omega arith in simp (reading_busy true (count + 1) below_limit, e)

  pub move_1_c : move_of (reading true low got size (count + 1)) 0x1C ≡ taken_move (reading false low got size (count + 2)) 0x5C
  unfolding move_of in_frame_move unescaped_move taken_move stored_move
  move_1_c = let e : count + 1 + 1 ≡ count + 2 = omega arith in simp (reading_busy true (count + 1) below_limit, e)

-- ---- an unescaped byte behind the size that is not the last goes to place k of the store
pub taken_more : (low n g k c v : ℕ) → g ≡ k + 2 → (g ≡ n + 1 → ⊥)
    → taken_move (reading false low g n c) v ≡ record { progress = reading false low (g + 1) n c; action = Put k v }
unfolding taken_move stored_move
taken_more low n g k c v e l =
    let p : g ≡ 0 → ⊥ = omega arith in
    let q : g ≡ 1 → ⊥ = omega arith in
    let d : g - 2 ≡ k = omega arith in
    simp (ne_eqb _ _ p, ne_eqb _ _ q, ne_eqb _ _ l, d)
