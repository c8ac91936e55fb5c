-- `payload_part` meets its contract. Assumes nothing.
use Rattle.capture.proofs.Packing.{part_above, part_missing, part_there}
use Rattle.capture.proofs.entries.payload_part.Goals as goal

pub returns-then-k-ge65536 : goal.returns-then-k-ge65536
returns-then-k-ge65536 c =
    let a = c.args in
    part_above a.list.now a.k c.if-k-ge65536.true

pub returns-then-list-k : goal.returns-then-list-k
returns-then-list-k c =
    let a = c.args in
    part_missing a.list.now a.k c.if-k-ge65536.false c.if-list-k.true c.payload_total.result c.payload_total.ensures

pub returns : goal.returns
returns c =
    let a = c.args in
    part_there a.list.now a.k c.if-k-ge65536.false c.payload_total-start.result c.length_of.result c.payload_total-start.ensures
    c.length_of.ensures.0
