-- `list_some` meets its contract. Assumes nothing.
use native.Mathlib.Omega.{arith}
use Rattle.line.proofs.Feeding.{advances}
use Rattle.line.specs.Receive.{holding}
use Rattle.listing.proofs.Lines.{lists_none, lists_length, lists_fits, lists_more}
use Rattle.listing.proofs.list_some.Goals as goal

pub loop-used-init : goal.loop-used-init
loop-used-init c =
    let a = c.args in
    lists_none a.s.now a.from (holding a.start a.store.now) a.out.now

pub loop-used-smaller : goal.loop-used-smaller
loop-used-smaller c =
    omega (arith, advances c.advance-a.ensures c.loop-used-test.true)

pub loop-used-preserved : goal.loop-used-preserved
loop-used-preserved c =
    let l = c.loop-used in
    lists_more l.invariant c.advance-a.ensures c.event_line-at.ensures (omega (arith, lists_length l.invariant, lists_fits l.invariant))
