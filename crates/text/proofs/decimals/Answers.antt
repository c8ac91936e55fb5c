-- `decimals` meets its contract. Assumes nothing.
use Rattle.text.proofs.Digits.{decimals_at, decimals_past}
use Rattle.text.proofs.Puts.{leaves_less, leaves_none, puts_then}
use Rattle.text.proofs.decimals.Goals as goal

pub loop-n-preserved : goal.loop-n-preserved
loop-n-preserved c =
    leaves_less c.loop-n.invariant (decimals_at _ _ c.loop-n-test.true) (puts_then c.put_byte-behind.ensures c.decimal-behind.ensures)

pub returns : goal.returns
returns c = leaves_none c.loop-n.invariant (decimals_past _ _ c.loop-n-test.false)
