-- A list of as many entries, and a buffer of as many bytes, as the capture has bytes always suffice. Assumes nothing.
use mathlib.Core.Path.{◌≡◌, refl, sym, ap}
use mathlib.Core.List.{List, [], ◌∷◌, ◌++◌, map, flatten}
use mathlib.Core.Bool.{Bool, true, false}
use Prim.Native.Nat.{ℕ, zero, suc, ◌+◌, ◌-◌, ◌≤◌}
use native.Mathlib.Omega.{arith}
use lib.ListN.{length, take, drop, length-append, length-take}
use lib.Dec.{eqb}
use borrow.Author.Tests.{ne_eqb}
use Rattle.wire.specs.Choice.{pick}
use Rattle.wire.specs.Numbers.{num}
use Rattle.wire.proofs.Choice.{pick_all}
use Rattle.crc.specs.Crc.{crc_of}
use Rattle.line.specs.Receive.{within}
use Rattle.line.specs.Line.{Emitted, NoStart}
use Rattle.capture.specs.Ahead.{Ahead, whole, start, bad_escape, end, ahead}
use Rattle.capture.specs.Capture.{events_ahead, checked, sized, behind_start, Found, found_at, found_from}
use Rattle.capture.specs.Answer.{payload_of_event, entries_in, payloads_in, RoomsSuffice}
use Rattle.capture.proofs.Reaching.{reached}
use Rattle.capture.proofs.Filling.{entries_append, payloads_append}

-- how many bytes stand before the first 7E
until_start : List ℕ → ℕ
until_start [] = 0
until_start (b ∷ bs) = pick (eqb b 0x7E) 0 (suc (until_start bs))

-- behind bytes that hold none
past_clear : (n : ℕ) (bs : List ℕ) → n ≤ length bs → NoStart (take n bs) → n + until_start (drop n bs) ≡ until_start bs
unfolding until_start
past_clear zero bs h c = (let e : 0 + until_start bs ≡ until_start bs = omega arith in e)
past_clear (suc n) [] h c = absurd (omega arith)
past_clear (suc n) (b ∷ bs) h c =
    let ih = past_clear n bs (omega arith) c.1 in
    sym (simp (ne_eqb _ _ c.0) (let e : suc (until_start bs) ≡ suc n + until_start (drop n bs) = omega arith in e))

-- ---- one event at most, with a payload of at most k bytes
Small : ℕ → List Emitted → Type 0
Small k [] = Unit {0}
Small k (e ∷ []) = length (payload_of_event e) ≤ k
Small k (e ∷ (f ∷ es)) = ⊥

found_small : (place k : ℕ) (give : ℕ → List ℕ → List ℕ → List Emitted) (a : Ahead)
    → ((n : ℕ) (vs rest : List ℕ) → a ≡ whole n vs rest → Small k (give (place + n) vs rest)) → Small k (events_ahead place give a)
unfolding events_ahead Small
found_small place k give (whole n vs rest) g = g n vs rest refl
found_small place k give (start n) g = omega arith
found_small place k give (bad_escape n) g = omega arith
found_small place k give end g = tt

checked_small : (size place k : ℕ) (vs : List ℕ) → size ≤ k → Small k (checked size place vs)
unfolding checked Small
checked_small size place k vs h =
    pick_all (Small k) (eqb (crc_of (take (size - 2) vs)) (num 2 (size - 2) vs))
    (λ e. omega (arith, length-take (size - 5) (drop 3 vs)))
    (λ e. omega arith)

sized_small : (size place k : ℕ) (rest : List ℕ) → until_start rest ≤ k → Small k (sized size place rest)
unfolding sized Small
sized_small size place k rest h =
    pick_all (Small k) (within size)
    (λ w. found_small place k (λ place vs rest. checked size place vs) (ahead size rest)
    (λ n vs more e.
    let r = reached e in
    checked_small size (place + n) k vs (omega (arith, r.least, past_clear n rest r.within r.clear))))
    (λ w. omega arith)

start_small : (bs : List ℕ) → Small (until_start bs) (behind_start bs)
unfolding behind_start
start_small bs =
    found_small 1 (until_start bs) (λ place vs rest. sized (num 2 0 vs) place rest) (ahead 2 bs)
    (λ n vs rest e.
    let r = reached e in
    let p = past_clear n bs r.within r.clear in
    sized_small (num 2 0 vs) (1 + n) (until_start bs) rest (omega (arith, p, ap until_start r.rest_is)))

-- what it comes to in the list and in the buffer
small_entries : (at k : ℕ) (es : List Emitted) → Small k es → length (entries_in (map (found_at at) es)) ≤ 1
unfolding Small
small_entries at k [] h = omega arith
small_entries at k (e ∷ []) h = omega arith
small_entries at k (e ∷ (f ∷ es)) h = absurd h

small_payloads : (at k : ℕ) (es : List Emitted) → Small k es → length (payloads_in (map (found_at at) es)) ≤ k
unfolding Small flatten
small_payloads at k [] h = omega arith
small_payloads at k (e ∷ []) h = omega (arith, length-append (payload_of_event e) [])
small_payloads at k (e ∷ (f ∷ es)) h = absurd h

-- ---- a whole capture
record Bounded (bs : List ℕ) (n : ℕ) (fs : List Found) : Type 0 where
  entries : length (entries_in fs) ≤ length bs
  payloads : length (payloads_in fs) + n ≤ length bs

-- a start byte more
started : (at b : ℕ) (bs : List ℕ) (fs : List Found) → Bounded bs (until_start bs) fs → Bounded (b ∷ bs) 0 (map (found_at at) (behind_start bs) ++ fs)
started at b bs fs h =
    let es : List Found = map (found_at at) (behind_start bs) in
    record {
      entries = omega (arith, ap length (entries_append es fs), length-append (entries_in es) (entries_in fs), small_entries at (until_start bs) (behind_start bs) (start_small bs), h.entries);
      payloads = omega (arith, ap length (payloads_append es fs), length-append (payloads_in es) (payloads_in fs), small_payloads at (until_start bs) (behind_start bs) (start_small bs), h.payloads);
    }

bounded : (at : ℕ) (bs : List ℕ) → Bounded bs (until_start bs) (found_from at bs)
unfolding found_from until_start flatten
bounded at [] = record { entries = omega arith; payloads = omega arith }
bounded at (b ∷ bs) = go (eqb b 0x7E) (bounded (at + 1) bs)
  where
    go : (t : Bool) → Bounded bs (until_start bs) (found_from (at + 1) bs)
        → Bounded (b ∷ bs) (pick t 0 (suc (until_start bs))) (pick t (map (found_at at) (behind_start bs)) [] ++ found_from (at + 1) bs)
    go true h = started at b bs (found_from (at + 1) bs) h
    go false h = record { entries = omega (arith, h.entries); payloads = omega (arith, h.payloads) }

pub rooms_suffice : RoomsSuffice
rooms_suffice capture = let h = bounded 0 capture in (h.entries, omega (arith, h.payloads))
