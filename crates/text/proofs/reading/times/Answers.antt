-- `times` meets its contract. Assumes nothing.
use Rattle.std.proofs.Common.{arith, ◌-◌, ◌+◌}
use Rattle.text.proofs.Puts.{leaves_less, leaves_none}
use Rattle.text.proofs.Fields.{times_at, times_past}
use Rattle.text.proofs.reading.times.Goals as goal

pub loop-preserved : goal.loop-preserved
loop-preserved c =
    let l = c.loop in
    leaves_less l.invariant (times_at (c.args.n - l.counter) (c.args.n - (l.counter + 1)) _ (omega arith)) c.pairs-behind.ensures

pub returns : goal.returns
returns c = leaves_none c.loop.invariant (times_past (c.args.n - c.loop.counter) _ (omega arith))
