-- `list_some` meets its contract. Assumes nothing.
use lib.ListN.{length}
use Prim.Native.Nat.{◌-◌}
use Rattle.listing.specs.Listing.{Lists}
use Rattle.line.specs.Receive.{holding}
use Rattle.listing.proofs.list_some.Given as goal

abbrev pub invariant-loop-used : goal.invariant-loop-used
invariant-loop-used l = Lists l.s l.from (holding l.initial.progress l.initial.store) l.used (holding l.progress l.store) l.initial.out l.at l.out

abbrev pub decreases-loop-used : goal.decreases-loop-used
decreases-loop-used l = length l.s - l.used
