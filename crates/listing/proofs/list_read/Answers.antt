-- `list_read` meets its contract. Assumes nothing.
use native.Mathlib.Omega.{arith}
use mathlib.Core.Path.{refl, ◌∙◌}
use Rattle.line.specs.Line.{after}
use Rattle.listing.proofs.Lines.{lists_length, lists_forward, lists_after}
use Rattle.listing.proofs.list_read.Goals as goal

pub loop-used-init : goal.loop-used-init
unfolding after
loop-used-init g c = (refl, refl)

pub loop-used-smaller : goal.loop-used-smaller
loop-used-smaller g c =
    omega (arith, lists_forward c.list_some-l.ensures.0 c.list_some-l.ensures.1 c.loop-used-test.true (omega (arith, c.loop-used.invariant.0)))

pub loop-used-preserved : goal.loop-used-preserved
loop-used-preserved g c =
    let l = c.loop-used in
    (lists_length c.list_some-l.ensures.0 ∙ l.invariant.0, lists_after c.list_some-l.ensures.0 _ l.invariant.1)
