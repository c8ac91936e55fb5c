-- The next event of a capture. Assumes nothing.
use mathlib.Core.Path.{◌≡◌, sym, ap, ap₂, ◌∙◌, subst}
use mathlib.Core.List.{List, [], ◌∷◌, ◌++◌, map}
use Prim.Native.Nat.{ℕ, zero, suc, ◌+◌, ◌-◌, ◌*◌, ◌≤◌, ◌<◌}
use native.Mathlib.Omega.{arith}
use lib.ListN.{length, take, drop, get_or, length-drop, drop_of_length-le}
use lib.Seq.{drop-cons, length-take-le}
use lib.Dec.{eqb}
use borrow.Author.Tests.{eq-eqb, ne_eqb}
use Rattle.std.specs.Prelude.{Option, Some, None}
use Rattle.wire.specs.Numbers.{num}
use Rattle.wire.proofs.Choice.{pick_all}
use Rattle.crc.specs.Crc.{crc_of}
use Rattle.line.specs.Receive.{within}
use Rattle.line.specs.Line.{Emitted, refusal, frame, emitted, Limits}
use Rattle.line.proofs.Moves.{within_limits}
use Rattle.line.specs.declared.Event.{Event}
use Rattle.line.specs.declared.Event.TheVariants.{Frame, Refused}
use Rattle.capture.specs.Ahead.{Ahead, whole, start, bad_escape, end, ahead}
use Rattle.capture.specs.Capture.{events_ahead, checked, sized, behind_start, Found, found_at, found_from}
use Rattle.capture.specs.Looking.{NoStartIn, StartFrom, Fits, no_event, NextIs, Looks}
use Rattle.capture.specs.declared.ahead.NextEvent.{NextEvent}
use Rattle.capture.proofs.Reaching.{Reaches, reaches}

-- ---- bytes without a start byte hold no event
past : (k : ℕ) (s : List ℕ) (from : ℕ) → from + k ≤ length s → NoStartIn s from (from + k) → found_from from (drop from s) ≡ found_from (from + k) (drop (from + k) s)
unfolding found_from
past zero s from h none = ap (λ (i : ℕ). found_from i (drop i s)) (let e : from ≡ from + 0 = omega arith in e)
past (suc k) s from h none =
    let i : from + 1 + k ≡ from + suc k = omega arith in
    ap (found_from from) (drop-cons s from 0 (omega arith))
    ∙ simp (ne_eqb _ _ (none from (omega arith) (omega arith)))
    (ap (λ (n : ℕ). found_from (from + 1) (drop n s)) (let e : suc from ≡ from + 1 = omega arith in e)
    ∙ past k s (from + 1) (omega arith) (λ j l u. none j (omega arith) (omega arith))
    ∙ ap (λ (n : ℕ). found_from n (drop n s)) i)

pub found_past : (s : List ℕ) (from to : ℕ) → from ≤ to → to ≤ length s → NoStartIn s from to → found_from from (drop from s) ≡ found_from to (drop to s)
found_past s from to l u none =
    let e : from + (to - from) ≡ to = omega arith in
    past (to - from) s from (omega arith) (λ i li ui. none i li (omega arith)) ∙ ap (λ (n : ℕ). found_from n (drop n s)) e

-- a start byte
found_start : (s : List ℕ) (at : ℕ) → at < length s → get_or s at 0 ≡ 0x7E
    → found_from at (drop at s) ≡ map (found_at at) (behind_start (drop (at + 1) s)) ++ found_from (at + 1) (drop (at + 1) s)
unfolding found_from
found_start s at h e =
    ap (found_from at) (drop-cons s at 0 h)
    ∙ simp (eq-eqb _ _ e)
    (ap (λ (n : ℕ). map (found_at at) (behind_start (drop n s)) ++ found_from (at + 1) (drop n s)) (let q : suc at ≡ at + 1 = omega arith in q))

-- ---- what every event is like: a payload of at most 507 bytes, and as long as the frame says; a refusal 1 to 4, at a place of 1 to 1029
abbrev pub AsEvent : Emitted → Type 0
AsEvent (refusal n place) = Limits n place
AsEvent (frame major minor wrapper len payload) = (len ≤ 507) × (length payload ≡ len)

abbrev pub Each : List Emitted → Type 0
Each [] = Unit {0}
Each (e ∷ es) = AsEvent e × Each es

found_each : (place m : ℕ) (give : ℕ → List ℕ → List ℕ → List Emitted) (bs : List ℕ) → 1 ≤ place → place + 2 * m ≤ 1029
    → ((n : ℕ) (vs rest : List ℕ) → n ≤ 2 * m → length vs ≡ m → Each (give (place + n) vs rest)) → (a : Ahead) → Reaches m bs a → Each (events_ahead place give a)
unfolding events_ahead
found_each place m give bs l u g (whole n vs rest) h = g n vs rest h.most h.count
found_each place m give bs l u g (start n) h = ((omega arith, omega arith, omega arith, omega (arith, h.0, h.1)), tt)
found_each place m give bs l u g (bad_escape n) h = ((omega arith, omega arith, omega arith, omega (arith, h.0, h.1)), tt)
found_each place m give bs l u g end h = tt

checked_each : (size place : ℕ) (vs : List ℕ) → 5 ≤ size → size ≤ 512 → 1 ≤ place → place ≤ 1029 → length vs ≡ size → Each (checked size place vs)
unfolding checked
checked_each size place vs h5 h512 l u c =
    pick_all Each (eqb (crc_of (take (size - 2) vs)) (num 2 (size - 2) vs))
    (λ e. ((omega arith, length-take-le (size - 5) (drop 3 vs) (omega (arith, length-drop 3 vs))), tt))
    (λ e. ((omega arith, omega arith, l, u), tt))

sized_each : (size place : ℕ) (rest : List ℕ) → 1 ≤ place → place ≤ 5 → Each (sized size place rest)
unfolding sized
sized_each size place rest l u =
    pick_all Each (within size)
    (λ w.
    let k = within_limits size w in
    found_each place size (λ place vs rest. checked size place vs) rest l (omega (arith, k.1))
    (λ n vs rest h c. checked_each size (place + n) vs k.0 k.1 (omega arith) (omega (arith, k.1)) c) (ahead size rest) (reaches size rest))
    (λ w. ((omega arith, omega arith, l, omega arith), tt))

pub behind_start_each : (bs : List ℕ) → Each (behind_start bs)
unfolding behind_start
behind_start_each bs =
    found_each 1 2 (λ place vs rest. sized (num 2 0 vs) place rest) bs (omega arith) (omega arith)
    (λ n vs rest h c. sized_each (num 2 0 vs) (1 + n) rest (omega arith) (omega arith)) (ahead 2 bs) (reaches 2 bs)

fits : (e : Option Event) (store : List ℕ) → Each (emitted e store) → Fits e store
fits None store h = tt
fits (Some (Frame major minor wrapper len)) store h = h.0
fits (Some (Refused r place)) store h = h.0

-- ---- the next event
-- at the end nothing is left
pub none_left : (s : List ℕ) (i : ℕ) → length s ≤ i → found_from i (drop i s) ≡ []
unfolding found_from
none_left s i h = ap (found_from i) (drop_of_length-le s h)

pub looks_end : {s : List ℕ} {from : ℕ} {store : List ℕ} {r : NextEvent} → length s ≤ from → r ≡ no_event from (length s) → Looks s from r store
looks_end {s} {from} {store} u q =
    subst (λ (x : NextEvent). Looks s from x store) (sym q)
    (record {
      events = none_left s from u ∙ sym (none_left s (length s) (omega arith));
      forward = λ below. omega arith;
      within = omega arith;
      below = λ below. omega arith;
      fits = tt;
    })

module _ {s : List ℕ} {from at : ℕ} {store : List ℕ} {r : NextEvent} (below : from < length s) (h : StartFrom s from at) where
  pub looks_nothing : length s ≤ at → r ≡ no_event from (length s) → Looks s from r store
  looks_nothing u q =
      subst (λ (x : NextEvent). Looks s from x store) (sym q)
      (record {
        events = found_past s from at h.forward h.within h.clear ∙ ap (λ (n : ℕ). found_from n (drop n s)) (let e : at ≡ length s = omega (arith, h.within) in e);
        forward = λ u. below;
        within = omega arith;
        below = λ u. below;
        fits = tt;
      })

  pub looks_next : at < length s → NextIs s at (at + 1) (behind_start (drop (at + 1) s)) r store → Looks s from r store
  looks_next u t =
      record {
        events =
            found_past s from at h.forward h.within h.clear
            ∙ found_start s at u (h.there u)
            ∙ ap₂ (λ (x y : List Found). x ++ y)
            (ap₂ (λ (n : ℕ) (es : List Emitted). map (found_at n) es) (sym t.offset_is) (sym t.event))
            (found_past s (at + 1) r.next t.forward t.within t.clear);
        forward = λ below. omega (arith, h.forward, t.forward);
        within = t.within;
        below = λ below. omega (arith, t.offset_is);
        fits = fits r.event store (subst Each (sym t.event) (behind_start_each (drop (at + 1) s)));
      }
