-- What is handed out over bytes one by one: the promise of one byte, bytes in two parts, and the limits of refusals. Assumes nothing.
use mathlib.Core.Path.{◌≡◌, refl, sym, ap, ◌∙◌, subst}
use mathlib.Core.List.{List, [], ◌∷◌, ◌++◌, append_assoc, append-nil}
use mathlib.Core.Bool.{true, ◌||◌}
use Prim.Native.Nat.{ℕ, ◌+◌, ◌-◌, ◌*◌, ◌≤◌}
use native.Mathlib.Omega.{arith}
use lib.ListN.{take, set}
use lib.Bits.{bit_xor}
use lib.Dec.{eqb}
use Rattle.std.specs.Prelude.{Option, Some}
use Rattle.wire.specs.Numbers.{num}
use Rattle.wire.specs.Refusals.{number_of}
use Rattle.wire.proofs.Choice.{pick_all}
use Rattle.crc.specs.Crc.{crc_of}
use Rattle.line.specs.Receive.{within, busy, step_of}
use Rattle.line.specs.Line.{Emitted, refusal, frame, emitted, frame_gives, value_gives, escaped_gives, inside_gives, gives, run, after, Received, EachRefusal, Limits}
use Rattle.line.proofs.Moves.{busy_counts}
use Rattle.line.proofs.Gives.{step_gives}
use Rattle.line.specs.declared.Progress.{Progress}
use Rattle.line.specs.declared.Receiver.{Receiver}
use Rattle.line.specs.declared.Step.{Step}
use Rattle.line.specs.declared.Event.{Event}
use Rattle.line.specs.declared.Event.TheVariants.{Refused}
use Rattle.wire.specs.declared.refusals.Refusal.{Refusal}

-- ---- one byte
pub run_one : (r : Receiver) (b : ℕ) → gives r b ≡ run (b ∷ []) r
unfolding run
run_one r b = sym (append-nil _)

pub received : (r : Receiver) (b : ℕ) (t : Step) → t ≡ step_of r b → Received r b t.receiver t.event
received r b t e =
    record {
      receiver = ap (λ (x : Step). x.receiver) e;
      event = ap (λ (x : Step). x.event) e;
      emits = ap (λ (x : Step). emitted x.event x.receiver.store) e ∙ step_gives r b;
    }

-- ---- bytes in two parts
pub run_append : (a b : List ℕ) (r : Receiver) → run (a ++ b) r ≡ run a r ++ run b (after a r)
unfolding run after
run_append [] b r = refl
run_append (x ∷ a) b r =
    let r' : Receiver = (step_of r x).receiver in
    ap (λ (z : List Emitted). gives r x ++ z) (run_append a b r') ∙ sym (append_assoc (gives r x) (run a r') (run b (after a r')))

pub after_append : (a b : List ℕ) (r : Receiver) → after (a ++ b) r ≡ after b (after a r)
unfolding after
after_append [] b r = refl
after_append (x ∷ a) b r = after_append a b (step_of r x).receiver

-- ---- refusals
-- one that is given at a byte: 1 to 4, only to a record inside a frame, and at the next count
pub record Given (p : Progress) (n place : ℕ) : Type 0 where
  pub least : 1 ≤ n
  pub most : n ≤ 4
  pub inside : busy p ≡ true
  pub next : place ≡ p.count + 1

module _ (p : Progress) (s : List ℕ) (t : busy p ≡ true) where
  abbrev All : List Emitted → Type 0
  All = EachRefusal (Given p)

  one : (n : ℕ) → 1 ≤ n → n ≤ 4 → All (refusal n (p.count + 1) ∷ [])
  one n l u = (record { least = l; most = u; inside = t; next = refl }, tt)

  frame_given : (size : ℕ) (l : List ℕ) → All (frame_gives size (p.count + 1) l)
  unfolding frame_gives
  frame_given size l = pick_all All (eqb (crc_of (take (size - 2) l)) (num 2 (size - 2) l)) (λ e. tt) (λ e. one 4 (omega arith) (omega arith))

  value_given : (v : ℕ) → All (value_gives p (p.count + 1) s v)
  unfolding value_gives
  value_given v =
      pick_all All (eqb p.got 1)
      (λ e. pick_all All (within (p.low + 256 * v)) (λ w. tt) (λ w. one 3 (omega arith) (omega arith)))
      (λ e. pick_all All (eqb p.got (p.size + 1)) (λ l. frame_given p.size (set s (p.got - 2) v)) (λ l. tt))

  inside_given : (b : ℕ) → All (inside_gives p s b)
  unfolding inside_gives escaped_gives
  inside_given b =
      pick_all All (eqb b 0x7E) (λ e. one 1 (omega arith) (omega arith))
      (λ e. pick_all All p.escaped
      (λ x. pick_all All (eqb b 0x3E || eqb b 0x1C) (λ y. value_given (bit_xor b 0x40)) (λ y. one 2 (omega arith) (omega arith)))
      (λ x. pick_all All (eqb b 0x5C) (λ y. tt) (λ y. value_given b)))

pub gives_given : (r : Receiver) (b : ℕ) → EachRefusal (Given r.progress) (gives r b)
unfolding gives
gives_given r b = pick_all (EachRefusal (Given r.progress)) (busy r.progress) (λ t. inside_given r.progress r.store t b) (λ t. tt)

-- what follows for each refusal
pub each : (P Q : ℕ → ℕ → Type 0) → ((n place : ℕ) → P n place → Q n place) → (es : List Emitted) → EachRefusal P es → EachRefusal Q es
each P Q f [] h = tt
each P Q f (refusal n place ∷ es) h = (f n place h.0, each P Q f es h.1)
each P Q f (frame major minor wrapper len payload ∷ es) h = each P Q f es h

both : (P : ℕ → ℕ → Type 0) (xs ys : List Emitted) → EachRefusal P xs → EachRefusal P ys → EachRefusal P (xs ++ ys)
both P [] ys p q = q
both P (refusal n place ∷ xs) ys p q = (p.0, both P xs ys p.1 q)
both P (frame major minor wrapper len payload ∷ xs) ys p q = both P xs ys p q

-- ---- refusals 1 to 4 only, at places 1 to 1029
gives_limits : (r : Receiver) (b : ℕ) → EachRefusal Limits (gives r b)
gives_limits r b =
    each (Given r.progress) Limits (λ n place h. (h.least, h.most, omega (arith, h.next), omega (arith, h.next, (busy_counts r.progress h.inside).1))) (gives r b) (gives_given r b)

-- a step's refusal
pub step_limits : (r : Receiver) (b : ℕ) (n : Refusal) (place : ℕ) → (step_of r b).event ≡ Some (Refused n place) → Limits (number_of n) place
step_limits r b n place e =
    (subst (EachRefusal Limits) (sym (step_gives r b) ∙ ap (λ (x : Option Event). emitted x (step_of r b).receiver.store) e) (gives_limits r b)).0

-- every refusal that is handed out, whatever the bytes and the record
pub run_limits : (bs : List ℕ) (r : Receiver) → EachRefusal Limits (run bs r)
unfolding run
run_limits [] r = tt
run_limits (b ∷ bs) r = both Limits (gives r b) (run bs (step_of r b).receiver) (gives_limits r b) (run_limits bs (step_of r b).receiver)
