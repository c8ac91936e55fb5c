-- `look` meets its contract. Assumes nothing.
use Rattle.capture.proofs.Finding.{looks_end, looks_nothing, looks_next}
use Rattle.capture.proofs.ahead.look.Goals as goal

pub returns-then-s-from : goal.returns-then-s-from
returns-then-s-from c = looks_end c.if-s-from.true c.nothing.ensures

pub returns-then-s-offset : goal.returns-then-s-offset
returns-then-s-offset c =
    looks_nothing c.if-s-from.false c.next_start-offset.ensures c.if-s-offset.true c.nothing-then-s-offset.ensures

pub returns : goal.returns
returns c =
    looks_next c.if-s-from.false c.next_start-offset.ensures c.if-s-offset.false c.behind_start.ensures
