-- `list_read` meets its contract. Assumes nothing.
use lib.ListN.{length}
use mathlib.Core.Path.{◌≡◌}
use Prim.Native.Nat.{◌-◌}
use Rattle.listing.specs.Listing.{between}
use Rattle.line.specs.Line.{after}
use Rattle.line.specs.Receive.{holding}
use Rattle.listing.proofs.list_read.Given as goal

abbrev pub invariant-loop-used : goal.invariant-loop-used
invariant-loop-used g l = (length l.out ≡ 4096) × (holding l.progress l.store ≡ after (between 0 l.used l.s) (holding l.initial.progress l.initial.store))

abbrev pub decreases-loop-used : goal.decreases-loop-used
decreases-loop-used g l = length l.s - l.used
