-- `unescape` meets its contract. Assumes nothing.
use mathlib.Core.Path.{◌≡◌}
use Prim.Native.Nat.{ℕ, ◌-◌, ◌≤◌}
use lib.ListN.{length}
use Rattle.capture.specs.Looking.{Holds}
use Rattle.capture.proofs.ahead.unescape.Given as goal

abbrev pub invariant-loop-t : goal.invariant-loop-t
invariant-loop-t l = (l.t.got ≤ l.n) × (length l.store ≡ length l.initial.store) × ((f : ℕ) → Holds l.s f 0 l.from l.initial.store → Holds l.s f l.t.got l.t.at l.store)

abbrev pub decreases-loop-t : goal.decreases-loop-t
decreases-loop-t l = l.n - l.t.got
