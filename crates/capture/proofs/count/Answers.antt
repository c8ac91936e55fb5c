-- `count` meets its contract. Assumes nothing.
use native.Mathlib.Omega.{arith}
use Rattle.capture.proofs.Filling.{left_next, left_end}
use Rattle.capture.proofs.count.Goals as goal

pub loop-i-preserved : goal.loop-i-preserved
loop-i-preserved c = left_next (omega arith) c.loop-i.invariant c.look-found.ensures c.events_in-entries.ensures c.payload_length-bytes.ensures

pub returns : goal.returns
returns c = left_end c.loop-i.invariant (omega arith)
