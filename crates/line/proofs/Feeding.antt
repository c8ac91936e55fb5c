-- Many bytes at once are the bytes one by one. Assumes nothing.
use mathlib.Core.Path.{◌≡◌, refl, sym, ap, ap₂, ◌∙◌, subst}
use mathlib.Core.List.{List, [], ◌∷◌, ◌++◌}
use mathlib.Core.Bool.{Bool, true, false}
use Prim.Native.Nat.{ℕ, zero, suc, ◌+◌, ◌-◌, ◌≤◌, ◌<◌}
use native.Mathlib.Numerals.{add-one}
use native.Mathlib.Omega.{arith}
use lib.ListN.{length, take, drop, get_or, set, drop_of_length-le, take-append-drop}
use lib.Seq.{drop-cons, drop-drop, take-nil}
use lib.Dec.{eqb, ltb}
use lib.Bits.{bit_xor}
use borrow.Author.Tests.{ne_eqb, eqb-true, ltb-true, ltb-false}
use Rattle.std.specs.Prelude.{Option, Some, None, is_some}
use Rattle.wire.specs.Choice.{pick}
use Rattle.wire.proofs.Choice.{pick_all, true_false}
use Rattle.line.specs.Receive.{busy, reading, holding, step_to, step_of}
use Rattle.line.specs.Moves.{move_of, taken_move, keep, store_after, event_of, ActsOn}
use Rattle.line.specs.Feed.{Fed, fed, fed_to, Feeds, Skips, CountBounded, Unescapes, Passes}
use Rattle.line.specs.Line.{Emitted, emitted, run, after}
use Rattle.line.proofs.Gives.{step_gives}
use Rattle.line.proofs.Run.{run_one, run_append}
use Rattle.line.proofs.Moves.{busy_counts, stepped, taken_more, move_plain, move_mark, move_3_e, move_1_c}
use Rattle.std.proofs.lemmas.Bool.{or_cases}
use Rattle.std.proofs.Common.{◌⊎◌, inl, inr}
use Rattle.line.specs.Escapes.{StandsAt, FirstStart, stands_for_byte}
use Rattle.line.specs.Escapes.StandsAt.{plain, escaped}
use Rattle.line.specs.declared.Action.TheVariants.{Put}
use Rattle.line.specs.declared.Progress.{Progress}
use Rattle.line.specs.declared.Move.{Move}
use Rattle.line.specs.declared.Receiver.{Receiver}
use Rattle.line.specs.declared.Event.{Event}
use Rattle.line.specs.declared.Step.{Step}

-- ---- many bytes
-- a feed of the bytes behind a step
abbrev fed_after : ℕ → List ℕ → Step → Fed
fed_after n bs t =
    pick (is_some t.event) (record { receiver = t.receiver; event = t.event; used = suc n }) (fed (suc n) bs t.receiver)

fed_at : (s : List ℕ) (i : ℕ) (r : Receiver) (t : Step) → i < length s → t ≡ step_of r (get_or s i 0)
    → fed i (drop i s) r ≡ fed_after i (drop (suc i) s) t
unfolding fed
fed_at s i r t h e = ap (λ (l : List ℕ). fed i l r) (drop-cons s i 0 h) ∙ ap (fed_after i (drop (suc i) s)) (sym e)

pub feed_next : (s : List ℕ) (i : ℕ) (r : Receiver) (t : Step) → i < length s → t ≡ step_of r (get_or s i 0) → is_some t.event ≡ false
    → fed i (drop i s) r ≡ fed (i + 1) (drop (i + 1) s) t.receiver
feed_next s i r t h e q = rw add-one (fed_at s i r t h e ∙ simp q)

pub feed_stop : (s : List ℕ) (i : ℕ) (r : Receiver) (t : Step) → i < length s → t ≡ step_of r (get_or s i 0) → is_some t.event ≡ true
    → fed i (drop i s) r ≡ record { receiver = t.receiver; event = t.event; used = i + 1 }
feed_stop s i r t h e q = rw add-one (fed_at s i r t h e ∙ simp q)

pub feed_end : (s : List ℕ) (i : ℕ) (r : Receiver) → length s ≤ i → fed i (drop i s) r ≡ record { receiver = r; event = None; used = i }
unfolding fed
feed_end s i r h = ap (λ (l : List ℕ). fed i l r) (drop_of_length-le s h)

-- ---- a byte of a frame behind its size that is not the last
module _ (low got size count : ℕ) (h2 : 2 ≤ got) (h5 : 5 ≤ size) (h512 : size ≤ 512) (hg : got ≤ size) (hc : CountBounded (reading false low got size count)) where
  -- the record after it, and the move that puts it into the store
  abbrev next : ℕ → Progress
  next w = reading false low (got + 1) size (count + w)

  abbrev puts : ℕ → ℕ → Move
  puts w v = record { progress = next w; action = Put (got - 2) v }

  unfinished : got < size + 2
  unfinished = omega arith

  taken_puts : (w v : ℕ) → taken_move (reading false low got size (count + w)) v ≡ puts w v
  taken_puts w v = taken_more low size got (got - 2) (count + w) v (omega arith) (omega arith)

  -- at a place where a move is known
  moved : (s st : List ℕ) (i : ℕ) (p : Progress) (m : Move) → i < length s → m ≡ move_of p (get_or s i 0) → event_of m.action (store_after m.action st) ≡ None
      → fed i (drop i s) (holding p st) ≡ fed (i + 1) (drop (i + 1) s) (holding m.progress (store_after m.action st))
  moved s st i p m below e q =
      feed_next s i (holding p st) (step_to m.progress (store_after m.action st) None) below
      (stepped p (get_or s i 0) st m (store_after m.action st) None e (record { store = refl; event = sym q })) refl

  pub plain_next : (s st : List ℕ) (i : ℕ) → i < length s → (get_or s i 0 ≡ 0x7E → ⊥) → (get_or s i 0 ≡ 0x5C → ⊥)
      → Skips s i (holding (reading false low got size count) st) (i + 1) (holding (next 1) (set st (got - 2) (get_or s i 0)))
  plain_next s st i below p q =
      record {
        forward = omega arith;
        same =
            moved s st i (reading false low got size count) (puts 1 (get_or s i 0)) below
            (sym (move_plain low got size count h5 h512 unfinished hc (get_or s i 0) p q ∙ taken_puts 1 (get_or s i 0))) refl;
      }

  pub escaped_next : (s st : List ℕ) (i v : ℕ) → i + 1 < length s → get_or s i 0 ≡ 0x5C
      → move_of (reading true low got size (count + 1)) (get_or s (i + 1) 0) ≡ taken_move (reading false low got size (count + 2)) v
      → Skips s i (holding (reading false low got size count) st) (i + 2) (holding (next 2) (set st (got - 2) v))
  escaped_next s st i v below e m =
      let k : i + 1 + 1 ≡ i + 2 = omega arith in
      record {
        forward = omega arith;
        same =
            moved s st i (reading false low got size count) (keep (reading true low got size (count + 1))) (omega arith)
            (sym (ap (move_of (reading false low got size count)) e ∙ move_mark low got size count h5 h512 unfinished hc)) refl
            ∙ moved s st (i + 1) (reading true low got size (count + 1)) (puts 2 v) below (sym (m ∙ taken_puts 2 v)) refl
            ∙ ap (λ (n : ℕ). fed n (drop n s) (holding (next 2) (set st (got - 2) v))) k;
      }

-- one that stands at a place
marked : (low got size count e : ℕ) → 5 ≤ size → size ≤ 512 → got < size + 2 → CountBounded (reading false low got size count) → stands_for_byte e ≡ true
    → move_of (reading true low got size (count + 1)) e ≡ taken_move (reading false low got size (count + 2)) (bit_xor e 0x40)
marked low got size count e h5 h512 hg hc h = go (or_cases (eqb e 0x3E) (eqb e 0x1C) h)
  where
    go : (eqb e 0x3E ≡ true) ⊎ (eqb e 0x1C ≡ true) → move_of (reading true low got size (count + 1)) e ≡ taken_move (reading false low got size (count + 2)) (bit_xor e 0x40)
    go (inl q) = rw (eqb-true e 0x3E q) (move_3_e low got size count h5 h512 hg hc)
    go (inr q) = rw (eqb-true e 0x1C q) (move_1_c low got size count h5 h512 hg hc)

pub stands_unescapes : (s : List ℕ) (at byte width : ℕ) → StandsAt s at byte width → Unescapes s at width byte
stands_unescapes s at byte width (plain below w b p q) =
    rw (w, b)
    (record {
      fits = omega arith;
      narrow = omega arith;
      puts = λ low got size count st h2 h5 h512 hg hc. plain_next low got size count h2 h5 h512 hg hc s st at below p q;
    })
stands_unescapes s at byte width (escaped below w b e t) =
    rw (w, b)
    (record {
      fits = omega arith;
      narrow = omega arith;
      puts = λ low got size count st h2 h5 h512 hg hc.
          escaped_next low got size count h2 h5 h512 hg hc s st at (bit_xor (get_or s (at + 1) 0) 0x40) below e
          (marked low got size count (get_or s (at + 1) 0) h5 h512 (omega arith) hc t);
    })

-- ---- from one place to another without an event
pub skips_none : (s : List ℕ) (i : ℕ) (r : Receiver) → Skips s i r i r
skips_none s i r = record { forward = omega arith; same = refl }

pub skips_then : {s : List ℕ} {i j k : ℕ} {r r' r'' : Receiver} → Skips s i r j r' → Skips s j r' k r'' → Skips s i r k r''
skips_then p q = record { forward = omega arith; same = p.same ∙ q.same }

-- a byte of a frame more, where the count is known from how far the loop has come
pub skips_byte : (s : List ℕ) (from i w v low got size count : ℕ) (r : Receiver) (st : List ℕ)
    → Skips s from r i (holding (reading false low got size (count + (i - from))) st)
    → Unescapes s i w v → 2 ≤ got → 5 ≤ size → size ≤ 512 → got ≤ size → CountBounded (reading false low got size (count + (i - from)))
    → Skips s from r (i + w) (holding (reading false low (got + 1) size (count + (i + w - from))) (set st (got - 2) v))
skips_byte s from i w v low got size count r st p u h2 h5 h512 hg hc =
    let e : count + (i - from) + w ≡ count + (i + w - from) = omega (arith, p.forward) in
    subst (λ (n : ℕ). Skips s from r (i + w) (holding (reading false low (got + 1) size n) (set st (got - 2) v))) e
    (skips_then p (u.puts low got size (count + (i - from)) st h2 h5 h512 hg hc))

-- progress inside a frame that is not after 5C
pub skips_from : {s : List ℕ} {from to : ℕ} {st : List ℕ} {r : Receiver} (h : Progress) → busy h ≡ true → h.escaped ≡ false
    → Skips s from (holding (reading false h.low h.got h.size h.count) st) to r → Skips s from (holding h st) to r
skips_from {s} {from} {to} {st} {r} h t e q =
    subst (λ (x : Bool). Skips s from (holding (record { inside = x; escaped = h.escaped; low = h.low; got = h.got; size = h.size; count = h.count }) st) to r)
    (sym (busy_counts h t).0.inside)
    (subst (λ (x : Bool). Skips s from (holding (reading x h.low h.got h.size h.count) st) to r) (sym e) q)

-- one turn of the loop that feeds: it continues with what is skipped behind the byte, or stops at the byte's event
module _ (s : List ℕ) (i : ℕ) (h : Progress) (st : List ℕ) (m : Move) (l : List ℕ) (e : Option Event) (f : Fed) (below : i < length s)
    (p : m ≡ move_of h (get_or s i 0)) (o : ActsOn m.action st l e) (before : fed i (drop i s) (holding h st) ≡ f) where
  pub feed_continues : {to : ℕ} {r : Receiver} → is_some e ≡ false → Skips s (i + 1) (holding m.progress l) to r → fed to (drop to s) r ≡ f
  feed_continues z k =
      sym k.same ∙ sym (feed_next s i (holding h st) (step_to m.progress l e) below (stepped h (get_or s i 0) st m l e p o) z) ∙ before

  pub feed_stops : is_some e ≡ true → fed_to m.progress l e (i + 1) ≡ f
  feed_stops z = sym (feed_stop s i (holding h st) (step_to m.progress l e) below (stepped h (get_or s i 0) st m l e p o) z) ∙ before

-- a byte of noise
pub passes_next : (s : List ℕ) (from i : ℕ) → i < length s → (get_or s i 0 ≡ 0x7E → ⊥) → Passes s from i → Passes s from (i + 1)
unfolding move_of
passes_next s from i below p before h st t =
    skips_then (before h st t)
    (record {
      forward = omega arith;
      same =
          feed_next s i (holding h st) (step_to h st None) below
          (stepped h (get_or s i 0) st (keep h) st None (simp (ne_eqb _ _ p, t)) (record { store = refl; event = refl })) refl;
    })

-- noise, up to a start byte
passes_some : (s : List ℕ) (from k : ℕ) → from + k ≤ length s → ((i : ℕ) → from ≤ i → i < from + k → get_or s i 0 ≡ 0x7E → ⊥) → Passes s from (from + k)
passes_some s from zero h n = let e : from + 0 ≡ from = omega arith in rw e (λ p st t. skips_none s from (holding p st))
passes_some s from (suc k) h n =
    let e : from + suc k ≡ from + k + 1 = omega arith in
    rw e (passes_next s from (from + k) (omega arith) (n (from + k) (omega arith) (omega arith)) (passes_some s from k (omega arith) (λ i l u. n i l (omega arith))))

pub passes_noise : {s : List ℕ} {from to : ℕ} → FirstStart s from to → Passes s from to
passes_noise {s} {from} {to} f = go (to - from) (omega (arith, f.forward)) (ltb from to) refl
  where
    go : (k : ℕ) → from + k ≡ to → (t : Bool) → ltb from to ≡ t → Passes s from to
    go k e true l = subst (Passes s from) e (passes_some s from k (omega (arith, f.within, ltb-true from to l)) (λ i a b. f.clear i a (omega arith)))
    go k e false l = let z : from ≡ to = omega (arith, f.forward, ltb-false from to l) in subst (Passes s from) z (λ p st t. skips_none s from (holding p st))

-- ---- what a feed hands out is what its bytes give one by one
used_more : (n b : ℕ) (bs : List ℕ) (r : Receiver) → suc n ≤ (fed (suc n) bs (step_of r b).receiver).used → n < (fed n (b ∷ bs) r).used
unfolding fed
used_more n b bs r h = pick_all (λ (f : Fed). n < f.used) (is_some (step_of r b).event) (λ e. omega arith) (λ e. h)

used_from : (n : ℕ) (bs : List ℕ) (r : Receiver) → n ≤ (fed n bs r).used
unfolding fed
used_from n [] r = omega arith
used_from n (b ∷ bs) r = omega (arith, used_more n b bs r (used_from (suc n) bs (step_of r b).receiver))

silent_emitted : (e : Option Event) (s : List ℕ) → is_some e ≡ false → emitted e s ≡ []
silent_emitted None s h = refl
silent_emitted (Some e) s h = true_false h

-- the bytes that a feed used: what they give, and the receiver after them
record OneByOne (bs : List ℕ) (r : Receiver) (f : Fed) : Type 0 where
  emits : emitted f.event f.receiver.store ≡ run bs r
  receiver : f.receiver ≡ after bs r

-- a byte without an event in front of the bytes that a feed used
silent_then : (b : ℕ) (bs : List ℕ) (r : Receiver) (f : Fed) → is_some (step_of r b).event ≡ false → OneByOne bs (step_of r b).receiver f → OneByOne (b ∷ bs) r f
unfolding run after
silent_then b bs r f h o =
    record {
      emits = o.emits ∙ ap (λ (z : List Emitted). z ++ run bs (step_of r b).receiver) (sym (silent_emitted (step_of r b).event (step_of r b).receiver.store h) ∙ step_gives r b);
      receiver = o.receiver;
    }

take_one : (n u b : ℕ) (bs : List ℕ) → suc n ≤ u → take (u - n) (b ∷ bs) ≡ b ∷ take (u - suc n) bs
take_one n u b bs h = let e : u - n ≡ suc (u - suc n) = omega arith in ap (λ (k : ℕ). take k (b ∷ bs)) e

fed_one_by_one : (n : ℕ) (bs : List ℕ) (r : Receiver) → OneByOne (take ((fed n bs r).used - n) bs) r (fed n bs r)
unfolding fed run after
fed_one_by_one n [] r =
    subst (λ (l : List ℕ). OneByOne l r (record { receiver = r; event = None; used = n })) (sym (take-nil (n - n))) (record { emits = refl; receiver = refl })
fed_one_by_one n (b ∷ bs) r =
    let f : Fed = fed (suc n) bs (step_of r b).receiver in
    pick_all (λ (x : Fed). OneByOne (take (x.used - n) (b ∷ bs)) r x) (is_some (step_of r b).event)
    (λ h.
    let e : suc n - n ≡ 1 = omega arith in
    subst (λ (k : ℕ). OneByOne (take k (b ∷ bs)) r (record { receiver = (step_of r b).receiver; event = (step_of r b).event; used = suc n })) (sym e)
    (record { emits = step_gives r b ∙ run_one r b; receiver = refl }))
    (λ h. subst (λ (l : List ℕ). OneByOne l r f) (sym (take_one n f.used b bs (used_from (suc n) bs (step_of r b).receiver)))
    (silent_then b (take (f.used - suc n) bs) r f h (fed_one_by_one (suc n) bs (step_of r b).receiver)))

-- on a slice from a place of it on
module _ (s : List ℕ) (from : ℕ) (r : Receiver) (f : Fed) (e : f ≡ fed from (drop from s) r) where
  one_by_one : OneByOne (take (f.used - from) (drop from s)) r f
  one_by_one = subst (λ (x : Fed). OneByOne (take (x.used - from) (drop from s)) r x) (sym e) (fed_one_by_one from (drop from s) r)

  -- the answer alone is the whole promise
  pub feeds : Feeds s from r f
  feeds = record { answer = e; emits = one_by_one.emits }

  -- the receiver after the bytes that were used
  pub feeds_after : f.receiver ≡ after (take (f.used - from) (drop from s)) r
  feeds_after = one_by_one.receiver

  pub feeds_forward : from ≤ f.used
  feeds_forward = subst (λ (x : Fed). from ≤ x.used) (sym e) (used_from from (drop from s) r)

  -- What a feed hands out, and then what the rest of the slice gives, is what the bytes give one by one.
  pub feeds_at : run (drop from s) r ≡ emitted f.event f.receiver.store ++ run (drop f.used s) f.receiver
  feeds_at =
      let k : ℕ = f.used - from in
      let d : List ℕ = drop from s in
      let z : from + k ≡ f.used = omega (arith, feeds_forward) in
      sym (ap (λ (l : List ℕ). run l r) (take-append-drop k d))
      ∙ run_append (take k d) (drop k d) r
      ∙ ap₂ (λ (x : List Emitted) (y : Receiver). x ++ run (drop k d) y) (sym one_by_one.emits) (sym one_by_one.receiver)
      ∙ ap (λ (l : List ℕ). emitted f.event f.receiver.store ++ run l f.receiver) (drop-drop k from s ∙ ap (λ (n : ℕ). drop n s) z)

-- A feed of some bytes uses one at least.
pub advances : {s : List ℕ} {from : ℕ} {r : Receiver} {f : Fed} → Feeds s from r f → from < length s → from < f.used
advances {s} {from} {r} {f} p h =
    subst (λ (x : Fed). from < x.used) (sym (p.answer ∙ ap (λ (l : List ℕ). fed from l r) (drop-cons s from 0 h)))
    (used_more from (get_or s from 0) (drop (suc from) s) r (used_from (suc from) (drop (suc from) s) (step_of r (get_or s from 0)).receiver))
