-- What comes of a frame, and where to go on: laws over plain variables. Assumes nothing.
use mathlib.Core.Path.{◌≡◌, refl, sym, ap, ◌∙◌, subst}
use mathlib.Core.List.{List, [], ◌∷◌}
use mathlib.Core.Bool.{false}
use Prim.Native.Nat.{ℕ, ◌+◌, ◌-◌, ◌*◌, ◌≤◌, ◌<◌}
use native.Mathlib.Omega.{arith}
use lib.ListN.{length, take, drop, get_or}
use borrow.Author.Tests.{le-leb}
use Rattle.wire.specs.Numbers.{num}
use Rattle.wire.specs.Refusals.{number_of}
use Rattle.wire.specs.declared.refusals.Refusal.{Refusal}
use Rattle.wire.specs.declared.refusals.Refusal.TheVariants.{StartInFrame, BadEscape, BadFrameSize}
use Rattle.line.specs.Receive.{within}
use Rattle.line.specs.Line.{Emitted, refusal, emitted}
use Rattle.capture.specs.Ahead.{Ahead, whole, start, bad_escape, end, ahead}
use Rattle.capture.specs.Capture.{events_ahead, checked, sized, behind_start}
use Rattle.capture.specs.Looking.{NoStartIn, Stuck, Holds, Takes, no_event, refusal_at, stopped, NextIs}
use Rattle.capture.specs.declared.ahead.NextEvent.{NextEvent}
use Rattle.capture.proofs.Starts.{all_next, all_join}
use Rattle.capture.proofs.Reaching.{holds_none, takes_holds, holds_byte, holds_clear, holds_stuck}
use Rattle.capture.proofs.Unescaping.{behind, first_end, first_start, escape_end, escape_start, stuck_escape, stuck_bad}

-- ---- where no unescaped byte is found
none_yet : (s : List ℕ) (at : ℕ) → NoStartIn s at at
none_yet s at i l u = absurd (omega arith)

past_one : (s : List ℕ) (at : ℕ) → (get_or s at 0 ≡ 0x7E → ⊥) → NoStartIn s at (at + 1)
past_one s at n = all_next (λ (i : ℕ). get_or s i 0 ≡ 0x7E → ⊥) at at (at + 1) refl (none_yet s at) n

module _ (s : List ℕ) (offset at : ℕ) (r : NextEvent) (behind-start : offset < at) where
  abbrev Stops : Type 0
  Stops = (store : List ℕ) → NextIs s offset at (stopped (at - offset) (ahead 1 (drop at s))) r store

  stops_nothing : at ≤ length s → ahead 1 (drop at s) ≡ end → NoStartIn s at (length s) → r ≡ no_event offset (length s) → Stops
  unfolding events_ahead
  stops_nothing u e h q store =
      subst (λ (x : NextEvent). NextIs s offset at (stopped (at - offset) (ahead 1 (drop at s))) x store) (sym q)
      (record {
        event = sym (ap (stopped (at - offset)) e);
        offset_is = refl;
        forward = u;
        within = omega arith;
        clear = h;
      })

  stops_refused : (why : Refusal) (behind next k : ℕ) → behind ≡ at + k → at ≤ next → next ≤ length s → NoStartIn s at next
      → stopped (at - offset) (ahead 1 (drop at s)) ≡ refusal (number_of why) (at - offset + k) ∷ [] → r ≡ refusal_at why offset behind next → Stops
  stops_refused why behind next k b l u h e q store =
      subst (λ (x : NextEvent). NextIs s offset at (stopped (at - offset) (ahead 1 (drop at s))) x store) (sym q)
      (record {
        event = ap (λ (j : ℕ). refusal (number_of why) j ∷ []) (let p : behind - offset ≡ at - offset + k = omega arith in p) ∙ sym e;
        offset_is = refl;
        forward = l;
        within = u;
        clear = h;
      })

  -- the end of the capture
  pub stops_end : at ≤ length s → length s ≤ at → r ≡ no_event offset (length s) → Stops
  stops_end u h q = stops_nothing u (first_end s at h) (λ i l v. absurd (omega arith)) q

  module _ (below : at < length s) where
    -- a start byte
    pub stops_start : get_or s at 0 ≡ 0x7E → r ≡ refusal_at StartInFrame offset (at + 1) at → Stops
    unfolding events_ahead
    stops_start e q =
        stops_refused StartInFrame (at + 1) at 1 refl (omega arith) (omega arith) (none_yet s at) (ap (stopped (at - offset)) (first_start s at below e)) q

    module _ (n : get_or s at 0 ≡ 0x7E → ⊥) (h : Stuck (ahead 1 (drop at s))) where
      -- the end behind a 5C
      pub stops_escape_end : length s ≤ at + 1 → r ≡ no_event offset (length s) → Stops
      stops_escape_end u q =
          let e : at + 1 ≡ length s = omega arith in
          stops_nothing (omega arith) (escape_end s at below (stuck_escape s at below n h) u) (rw e at (past_one s at n)) q

      -- a start byte behind one, and a bad escape
      pub stops_escape_start : at + 1 < length s → get_or s (at + 1) 0 ≡ 0x7E → r ≡ refusal_at StartInFrame offset (at + 2) (at + 1) → Stops
      unfolding events_ahead
      stops_escape_start u e q =
          stops_refused StartInFrame (at + 2) (at + 1) 2 refl (omega arith) (omega arith) (past_one s at n)
          (ap (stopped (at - offset)) (escape_start s at u (stuck_escape s at below n h) e)) q

      pub stops_bad : at + 1 < length s → (get_or s (at + 1) 0 ≡ 0x7E → ⊥) → r ≡ refusal_at BadEscape offset (at + 2) (at + 2) → Stops
      unfolding events_ahead
      stops_bad u k q =
          stops_refused BadEscape (at + 2) (at + 2) 2 refl (omega arith) (omega arith)
          (all_next (λ (i : ℕ). get_or s i 0 ≡ 0x7E → ⊥) at (at + 1) (at + 2) (omega arith) (past_one s at n) k)
          (ap (stopped (at - offset)) (stuck_bad s at u (stuck_escape s at below n h) k h)) q

-- ---- the bytes that the size counts
found_stuck : (place w : ℕ) (give : ℕ → List ℕ → List ℕ → List Emitted) (vs : List ℕ) (a : Ahead) → Stuck a → events_ahead place give (behind w vs a) ≡ stopped (place + w) a
unfolding events_ahead
found_stuck place w give vs (whole n us rest) h = absurd h
found_stuck place w give vs (start n) h = ap (λ (k : ℕ). refusal 1 k ∷ []) (let e : place + (w + n) ≡ place + w + n = omega arith in e)
found_stuck place w give vs (bad_escape n) h = ap (λ (k : ℕ). refusal 2 k ∷ []) (let e : place + (w + n) ≡ place + w + n = omega arith in e)
found_stuck place w give vs end h = refl

further : {s : List ℕ} {at got at' : ℕ} {front : List ℕ} (offset : ℕ) → offset < at → Holds s at got at' front → at - offset + (at' - at) ≡ at' - offset
further offset l h = omega (arith, h.forward)

-- what comes from further on in the frame
module _ {s : List ℕ} {offset at got at' : ℕ} {front store : List ℕ} {r : NextEvent} (behind-start : offset < at) (h : Holds s at got at' front) where
  later : {events events' : List Emitted} → events ≡ events' → NextIs s offset at' events' r store → NextIs s offset at events r store
  later e t =
      record {
        event = t.event ∙ sym e;
        offset_is = t.offset_is;
        forward = omega (arith, h.forward, t.forward);
        within = t.within;
        clear = all_join (λ (i : ℕ). get_or s i 0 ≡ 0x7E → ⊥) at at' r.next (holds_clear h) t.clear;
      }

  -- where none is found behind some
  pub next_stopped : (n : ℕ) (give : ℕ → List ℕ → List ℕ → List Emitted) → got < n → Stuck (ahead 1 (drop at' s))
      → NextIs s offset at' (stopped (at' - offset) (ahead 1 (drop at' s))) r store → NextIs s offset at (events_ahead (at - offset) give (ahead n (drop at s))) r store
  next_stopped n give l stuck t =
      later
      (ap (events_ahead (at - offset) give) (holds_stuck n h l stuck)
      ∙ found_stuck (at - offset) (at' - at) give (take got front) (ahead 1 (drop at' s)) stuck
      ∙ ap (λ (k : ℕ). stopped k (ahead 1 (drop at' s))) (further offset behind-start h))
      t

  -- where all are
  pub next_whole : (give : ℕ → List ℕ → List ℕ → List Emitted) → NextIs s offset at' (give (at' - offset) (take got front) (drop at' s)) r store
      → NextIs s offset at (events_ahead (at - offset) give (ahead got (drop at s))) r store
  unfolding events_ahead
  next_whole give t = later (ap (events_ahead (at - offset) give) h.bytes ∙ ap (λ (k : ℕ). give k (take got front) (drop at' s)) (further offset behind-start h)) t

-- ---- a frame's event, once the size is known
module _ (s : List ℕ) (offset at size : ℕ) (r : NextEvent) (store : List ℕ) (behind-start : offset < at) (within-capture : at ≤ length s) where
  abbrev Sized : Type 0
  Sized = NextIs s offset at (sized size (at - offset) (drop at s)) r store

  -- 3
  pub next_size : within size ≡ false → r ≡ refusal_at BadFrameSize offset at at → Sized
  unfolding sized
  next_size e q =
      subst (λ (x : NextEvent). NextIs s offset at (sized size (at - offset) (drop at s)) x store) (sym q)
      (record { event = simp e; offset_is = refl; forward = omega arith; within = within-capture; clear = none_yet s at })

  module _ (least : 5 ≤ size) (most : size ≤ 512) {got at' : ℕ} {was : List ℕ} (t : Takes s 0 at size was got at' store) where
    taken : Holds s at got at' store
    taken = takes_holds within-capture t

    in_limits : NextIs s offset at (events_ahead (at - offset) (λ place vs rest. checked size place vs) (ahead size (drop at s))) r store → Sized
    unfolding sized
    in_limits h = simp (le-leb _ _ least, le-leb _ _ most) h

    -- cut short
    pub next_cut : got < size → ((l : List ℕ) → NextIs s offset at' (stopped (at' - offset) (ahead 1 (drop at' s))) r l) → Sized
    next_cut l b = in_limits (next_stopped behind-start taken size (λ place vs rest. checked size place vs) l (t.stuck l) (b store))

    -- all there
    pub next_checked : size ≤ got → (emitted r.event store ≡ checked size (at' - offset) (take size store)) × (r.offset ≡ offset) × (r.next ≡ at') → Sized
    next_checked l c =
        let e : got ≡ size = omega (arith, t.limit) in
        let h : Holds s at size at' store = subst (λ (k : ℕ). Holds s at k at' store) e taken in
        in_limits
        (next_whole behind-start h (λ place vs rest. checked size place vs)
        (record {
          event = c.0;
          offset_is = c.1;
          forward = omega (arith, c.2);
          within = omega (arith, c.2, h.within);
          clear = rw c.2 (none_yet s at');
        }))

-- ---- and behind a start byte
module _ (s : List ℕ) (offset : ℕ) (r : NextEvent) (store : List ℕ) (below : offset < length s) where
  abbrev at : ℕ
  at = offset + 1

  abbrev Started : Type 0
  Started = NextIs s offset at (behind_start (drop at s)) r store

  -- the bytes of the size, found one by one
  none_found : Holds s at 0 at (0 ∷ 0 ∷ [])
  none_found = holds_none s at (0 ∷ 0 ∷ []) (omega arith)

  one_found : (v w : ℕ) → ahead 1 (drop at s) ≡ whole w (v ∷ []) (drop (at + w) s) → Holds s at 1 (at + w) (v ∷ 0 ∷ [])
  one_found v w e = holds_byte none_found e (omega arith)

  two_found : (v w u x : ℕ) → ahead 1 (drop at s) ≡ whole w (v ∷ []) (drop (at + w) s) → ahead 1 (drop (at + w) s) ≡ whole x (u ∷ []) (drop (at + w + x) s)
      → Holds s at 2 (at + w + x) (v ∷ u ∷ [])
  two_found v w u x e f = holds_byte (one_found v w e) f (omega arith)

  is_one : at - offset ≡ 1
  is_one = omega arith

  -- from what is found ahead to what comes of it
  by_size : NextIs s offset at (events_ahead (at - offset) (λ place vs rest. sized (num 2 0 vs) place rest) (ahead 2 (drop at s))) r store → Started
  unfolding behind_start
  by_size t = rw is_one at t

  pub next_no_low : Stuck (ahead 1 (drop at s)) → ((l : List ℕ) → NextIs s offset at (stopped (at - offset) (ahead 1 (drop at s))) r l) → Started
  next_no_low h b = by_size (next_stopped (omega arith) none_found 2 (λ place vs rest. sized (num 2 0 vs) place rest) (omega arith) h (b store))

  module _ {v w : ℕ} (low : ahead 1 (drop at s) ≡ whole w (v ∷ []) (drop (at + w) s)) where
    pub next_no_high : Stuck (ahead 1 (drop (at + w) s))
        → ((l : List ℕ) → NextIs s offset (at + w) (stopped (at + w - offset) (ahead 1 (drop (at + w) s))) r l) → Started
    next_no_high h b =
        by_size (next_stopped (omega arith) (one_found v w low) 2 (λ place vs rest. sized (num 2 0 vs) place rest) (omega arith) h (b store))

    pub next_by_size : {u x size : ℕ} → ahead 1 (drop (at + w) s) ≡ whole x (u ∷ []) (drop (at + w + x) s) → size ≡ v + 256 * u
        → NextIs s offset (at + w + x) (sized size (at + w + x - offset) (drop (at + w + x) s)) r store → Started
    next_by_size {u} {x} high e t =
        by_size (next_whole (omega arith) (two_found v w u x low high) (λ place vs rest. sized (num 2 0 vs) place rest) (rw e at t))
