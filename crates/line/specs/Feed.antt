-- Many bytes at once, up to the next event.
use Rattle.std.specs.Prelude.{ℕ, suc, ◌+◌, ◌-◌, ◌*◌, ◌≤◌, List, [], ◌∷◌, false, length, take, drop, set, ◌≡◌, Option, None, is_some}
use Rattle.wire.specs.Choice.{pick}
use Rattle.line.specs.Receive.{step_of, busy, reading, holding}
use Rattle.line.specs.Line.{emitted, run}
use Rattle.line.specs.declared.Progress.{Progress}
use Rattle.line.specs.declared.Receiver.{Receiver}
use Rattle.line.specs.declared.Event.{Event}

-- the receiver after some bytes, the event that they ended with, and the place behind them
pub record Fed : Type 0 where
  pub receiver : Receiver
  pub event : Option Event
  pub used : ℕ

-- the bytes, of which the first is counted n, one step each, up to the first event or to their end
unfoldable pub fed : ℕ → List ℕ → Receiver → Fed
fed n [] r = record { receiver = r; event = None; used = n }
fed n (b ∷ bs) r =
    pick (is_some (step_of r b).event)
    (record { receiver = (step_of r b).receiver; event = (step_of r b).event; used = suc n })
    (fed (suc n) bs (step_of r b).receiver)

abbrev pub fed_to : Progress → List ℕ → Option Event → ℕ → Fed
fed_to p s e used = record { receiver = holding p s; event = e; used = used }

-- what a function promises that takes the bytes of s from a place on: its answer, and that what is handed out is what the bytes up to
-- `used` give one by one
pub record Feeds (s : List ℕ) (from : ℕ) (r : Receiver) (f : Fed) : Type 0 where
  pub answer : f ≡ fed from (drop from s) r
  pub emits : emitted f.event f.receiver.store ≡ run (take (f.used - from) (drop from s)) r

-- ---- what the code's inner loops promise
-- the bytes between two places of s give no event: a feed from the first is a feed from the second, with the receiver after them
pub record Skips (s : List ℕ) (from : ℕ) (r : Receiver) (to : ℕ) (r' : Receiver) : Type 0 where
  pub forward : from ≤ to
  pub same : fed from (drop from s) r ≡ fed to (drop to s) r'

-- the count is at most the start byte, two bytes for each unescaped one, and one more just after 5C: from a start byte on it always is
abbrev pub CountBounded : Progress → Type 0
CountBounded p = p.count ≤ 1 + 2 * p.got + pick p.escaped 1 0

-- v is the unescaped byte at a place of s, w bytes on the line: behind a frame's size, where it is not the last, it is put into the store,
-- and w counted
pub record Unescapes (s : List ℕ) (i w v : ℕ) : Type 0 where
  pub fits : i + w ≤ length s
  pub narrow : w ≤ 2
  pub puts :
      (low got size count : ℕ) (st : List ℕ) → 2 ≤ got → 5 ≤ size → size ≤ 512 → got ≤ size → CountBounded (reading false low got size count)
      → Skips s i (holding (reading false low got size count) st) (i + w) (holding (reading false low (got + 1) size (count + w)) (set st (got - 2) v))

-- between two places of s nothing happens to a receiver that is taken as idle
abbrev pub Passes : List ℕ → ℕ → ℕ → Type 0
Passes s from to = (p : Progress) (st : List ℕ) → busy p ≡ false → Skips s from (holding p st) to (holding p st)
