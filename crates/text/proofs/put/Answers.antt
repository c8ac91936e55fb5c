-- `put` meets its contract. Assumes nothing.
use Rattle.text.proofs.Puts.{leaves_less, bytes_at}
use Rattle.text.proofs.put.Goals as goal

pub loop-b-preserved : goal.loop-b-preserved
loop-b-preserved c = leaves_less c.loop-b.invariant (bytes_at _ _ c.loop-b-test.true) c.put_byte-behind.ensures
