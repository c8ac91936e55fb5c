-- The place of a refusal is what it says: how many bytes came from its frame's start byte on. Assumes nothing.
use mathlib.Core.Path.{◌≡◌, refl, sym, ap, ◌∙◌, subst}
use mathlib.Core.List.{List, [], ◌∷◌, ◌++◌, append_assoc, append-nil}
use mathlib.Core.Bool.{Bool, true, false}
use Prim.Native.Nat.{ℕ, ◌+◌, ◌*◌, ◌≤◌, ◌<◌}
use native.Mathlib.Omega.{arith}
use lib.ListN.{length, length-append}
use lib.Dec.{eqb, ltb}
use borrow.Author.Tests.{eqb-true, eqb-false, lt-ltb}
use Rattle.wire.specs.Choice.{pick}
use Rattle.wire.proofs.Choice.{pick_all, and_holds, true_false}
use Rattle.frame.proofs.Escape.{frame_length}
use Rattle.line.specs.Receive.{within, mid_frame, busy, counted, after_start, idle, holding, fresh_receiver, step_of}
use Rattle.line.specs.Moves.{move_of, in_frame_move, unescaped_move, taken_move, sized_move, stored_move}
use Rattle.line.specs.Feed.{CountBounded}
use Rattle.line.specs.Line.{gives, after, EachRefusal, NoStart}
use Rattle.line.specs.Places.{FromStart, Places}
use Rattle.line.proofs.Moves.{mid_frame_counts, step_moves}
use Rattle.line.proofs.Run.{Given, gives_given, each, run_limits}
use Rattle.line.proofs.Delivery.{frame_finished}
use Rattle.line.specs.declared.Progress.{Progress}
use Rattle.line.specs.declared.Move.{Move}
use Rattle.line.specs.declared.Receiver.{Receiver}
use Rattle.line.specs.declared.Step.{Step}

-- ---- the count of a record, and the bytes that led to it
record Follows (bs : List ℕ) (p : Progress) : Type 0 where
  bounded : CountBounded p
  before : List ℕ
  behind : List ℕ
  begun : bs ≡ before ++ (0x7E ∷ behind)
  clear : NoStart behind
  counts : p.count ≡ length (0x7E ∷ behind)

abbrev Led : List ℕ → Progress → Type 0
Led bs p = mid_frame p ≡ true → Follows bs p

escape_one : (t : Bool) → pick t 1 0 ≤ 1
escape_one true = omega arith
escape_one false = omega arith

-- a count so bounded is below its limit
bounded_busy : (p : Progress) → mid_frame p ≡ true → CountBounded p → busy p ≡ true
unfolding busy
bounded_busy p t h =
    let k = mid_frame_counts p t in
    let c : p.count < 1029 = omega (arith, k.most, k.more, h, escape_one p.escaped) in
    simp (t, lt-ltb _ _ c)

busy_mid_frame : (p : Progress) → busy p ≡ true → mid_frame p ≡ true
unfolding busy
busy_mid_frame p t = (and_holds (mid_frame p) (ltb p.count 1029) t).0

-- ---- one byte
-- what a byte inside a frame makes of the count, unless it ends the frame
abbrev NextCount : Progress → Move → Type 0
NextCount p m = mid_frame m.progress ≡ true → (m.progress.count ≡ p.count + 1) × CountBounded m.progress

none : (p : Progress) (t : mid_frame idle ≡ true) → (idle.count ≡ p.count + 1) × CountBounded idle
unfolding mid_frame
none p t = true_false (sym t)

taken_counts : (p : Progress) (v : ℕ) → CountBounded p → NextCount p (taken_move (counted p) v)
unfolding taken_move sized_move stored_move
taken_counts p v h =
    let one = escape_one p.escaped in
    pick_all (NextCount p) (eqb p.got 0) (λ e t. (refl, omega (arith, h, one, eqb-true p.got 0 e)))
    (λ z. pick_all (NextCount p) (eqb p.got 1)
    (λ e. pick_all (NextCount p) (within (p.low + 256 * v)) (λ w t. (refl, omega (arith, h, one, eqb-true p.got 1 e))) (λ w. none p))
    (λ y. pick_all (NextCount p) (eqb p.got (p.size + 1)) (λ e. none p) (λ e t. (refl, omega (arith, h, one)))))

in_frame_counts : (p : Progress) (b : ℕ) → CountBounded p → NextCount p (in_frame_move (counted p) b)
unfolding in_frame_move unescaped_move
in_frame_counts p b h =
    pick_all (NextCount p) p.escaped
    (λ x. pick_all (NextCount p) (eqb b 0x3E) (λ e. taken_counts p 0x7E h)
    (λ y. pick_all (NextCount p) (eqb b 0x1C) (λ e. taken_counts p 0x5C h) (λ e. none p)))
    (λ x. pick_all (NextCount p) (eqb b 0x5C) (λ e t. (refl, omega (arith, h, ap {B = ℕ} (λ (t : Bool). pick t 1 0) x))) (λ e. taken_counts p b h))

clear_more : (bs : List ℕ) (b : ℕ) → NoStart bs → (b ≡ 0x7E → ⊥) → NoStart (bs ++ (b ∷ []))
clear_more [] b h n = (n, tt)
clear_more (x ∷ bs) b h n = (h.0, clear_more bs b h.1 n)

-- a byte that is no start byte, inside a frame
follows_more : (bs : List ℕ) (b : ℕ) (p q : Progress) → Follows bs p → (b ≡ 0x7E → ⊥) → q.count ≡ p.count + 1 → CountBounded q → Follows (bs ++ (b ∷ [])) q
follows_more bs b p q f n e h =
    record {
      bounded = h;
      before = f.before;
      behind = f.behind ++ (b ∷ []);
      begun = ap (λ (l : List ℕ). l ++ (b ∷ [])) f.begun ∙ append_assoc f.before (0x7E ∷ f.behind) (b ∷ []);
      clear = clear_more f.behind b f.clear n;
      counts = omega (arith, e, f.counts, length-append f.behind (b ∷ []));
    }

-- the record just after a start byte
follows_start : (bs : List ℕ) (b : ℕ) → b ≡ 0x7E → Follows (bs ++ (b ∷ [])) after_start
follows_start bs b e =
    record { bounded = omega arith; before = bs; behind = []; begun = ap (λ (x : ℕ). bs ++ (x ∷ [])) e; clear = tt; counts = refl }

move_led : (bs : List ℕ) (b : ℕ) (p : Progress) → Led bs p → Led (bs ++ (b ∷ [])) (move_of p b).progress
unfolding move_of
move_led bs b p f =
    pick_all (λ (m : Move). Led (bs ++ (b ∷ [])) m.progress) (eqb b 0x7E)
    (λ e t. follows_start bs b (eqb-true _ _ e))
    (λ n. pick_all (λ (m : Move). Led (bs ++ (b ∷ [])) m.progress) (busy p)
    (λ y t.
    let g = f (busy_mid_frame p y) in
    let c = in_frame_counts p b g.bounded t in
    follows_more bs b p (in_frame_move (counted p) b).progress g (eqb-false _ _ n) c.0 c.1)
    (λ y t. true_false (sym (bounded_busy p t (f t).bounded) ∙ y)))

-- ---- many bytes
after_led : (bs more : List ℕ) (r : Receiver) → Led bs r.progress → Led (bs ++ more) (after more r).progress
unfolding after
after_led bs [] r f = subst (λ (l : List ℕ). Led l r.progress) (sym (append-nil bs)) f
after_led bs (b ∷ more) r f =
    let q : Receiver = (step_of r b).receiver in
    let e : (move_of r.progress b).progress ≡ q.progress = sym (ap (λ (t : Step). t.receiver.progress) (step_moves r b)) in
    subst (λ (l : List ℕ). Led l (after more q).progress) (append_assoc bs (b ∷ []) more)
    (after_led (bs ++ (b ∷ [])) more q (subst (Led (bs ++ (b ∷ []))) e (move_led bs b r.progress f)))

fresh_led : (bs : List ℕ) → Led bs (after bs fresh_receiver).progress
unfolding mid_frame
fresh_led bs = after_led [] bs fresh_receiver (λ t. true_false (sym t))

start_led : (r : Receiver) (bs : List ℕ) → Led (0x7E ∷ bs) (after (0x7E ∷ bs) r).progress
unfolding after step_of
start_led r bs = after_led (0x7E ∷ []) bs (holding after_start r.store) (λ t. follows_start [] 0x7E refl)

-- ---- the laws
from_start : (bs : List ℕ) (b : ℕ) (r : Receiver) → Led bs r.progress → EachRefusal (λ n place. FromStart bs b place) (gives r b)
from_start bs b r f =
    each (Given r.progress) (λ n place. FromStart bs b place)
    (λ n place h.
    let g = f (busy_mid_frame r.progress h.inside) in
    record {
      before = g.before;
      behind = g.behind;
      begun = g.begun;
      clear = g.clear;
      counts = omega (arith, h.next, g.counts, length-append g.behind (b ∷ []));
    })
    (gives r b) (gives_given r b)

not_idle : (p : Progress) (x y : Bool) → busy p ≡ x → mid_frame p ≡ y → (mid_frame p ≡ true → CountBounded p) → x ≡ y
not_idle p true y e g f = sym (busy_mid_frame p e) ∙ g
not_idle p false true e g f = sym e ∙ bounded_busy p g (f g)
not_idle p false false e g f = refl

pub places : Places
places =
    record {
      limits = run_limits;
      fresh = λ bs b. from_start bs b (after bs fresh_receiver) (fresh_led bs);
      started = λ r bs b. from_start (0x7E ∷ bs) b (after (0x7E ∷ bs) r) (start_led r bs);
      middle = λ r bs. not_idle (after (0x7E ∷ bs) r).progress _ _ refl refl (λ t. (start_led r bs t).bounded);
      bounds = frame_length;
      finishes = frame_finished;
    }
