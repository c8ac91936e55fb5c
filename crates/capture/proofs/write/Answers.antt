-- `write` meets its contract. Assumes nothing.
use native.Mathlib.Omega.{arith}
use Rattle.capture.proofs.Filling.{left_next, left_end, filled_next, filled_end, room_there}
use Rattle.capture.proofs.write.Goals as goal

pub put-requires : goal.put-requires
put-requires c =
    let v = c.loop-i.invariant in
    let p = c.requires in
    let h = c.look-found.ensures in
    (room_there v.0 v.1 h p.1 p.2, omega (arith, h.below (omega arith), p.0))

pub loop-i-preserved : goal.loop-i-preserved
loop-i-preserved c =
    let v = c.loop-i.invariant in
    let n = c.events_in-entries.ensures in
    (left_next (omega arith) v.0 c.look-found.ensures n c.payload_length-bytes.ensures, filled_next v.1 c.look-found.ensures c.put.ensures n.0 c.payload_length-bytes.ensures)

pub returns : goal.returns
returns c =
    let v = c.loop-i.invariant in
    (left_end v.0 (omega arith), filled_end v.1 (omega arith))
