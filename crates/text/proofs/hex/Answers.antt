-- `hex` meets its contract. Assumes nothing.
use Rattle.text.proofs.Digits.{hex_at, hex_past}
use Rattle.text.proofs.Puts.{leaves_less, leaves_none, puts_then}
use Rattle.text.proofs.hex.Goals as goal

pub loop-b-preserved : goal.loop-b-preserved
loop-b-preserved c =
    leaves_less c.loop-b.invariant (hex_at _ _ c.loop-b-test.true c.digit.ensures c.digit-in-loop-b.ensures)
    (puts_then c.put_byte-behind.ensures c.put_byte-behind-in-loop-b.ensures)

pub returns : goal.returns
returns c = leaves_none c.loop-b.invariant (hex_past _ _ c.loop-b-test.false)
