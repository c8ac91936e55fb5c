-- `advance` meets its contract: a feed from where it began is a feed from where it is now. Assumes nothing.
use Prim.Native.Nat.{◌-◌}
use mathlib.Core.Path.{◌≡◌}
use lib.ListN.{length, drop}
use Rattle.line.specs.Receive.{holding}
use Rattle.line.specs.Feed.{fed}
use Rattle.line.proofs.advance.Given as goal

abbrev pub invariant-loop-b : goal.invariant-loop-b
invariant-loop-b l = fed l.i (drop l.i l.s) (holding l.progress l.store) ≡ fed l.from (drop l.from l.s) (holding l.initial.progress l.initial.store)

abbrev pub decreases-loop-b : goal.decreases-loop-b
decreases-loop-b l = length l.s - l.i
