-- `broken` meets its contract. Assumes nothing.
use Rattle.capture.proofs.NextEvents.{stops_end, stops_start, stops_escape_end, stops_escape_start, stops_bad}
use Rattle.capture.proofs.ahead.broken.Goals as goal

pub returns-then-s-at : goal.returns-then-s-at
returns-then-s-at c =
    stops_end c.args.s.now c.args.offset c.args.at c.nothing.result c.requires.0 c.requires.1 c.if-s-at.true c.nothing.ensures

pub returns-then-s-at-eq126 : goal.returns-then-s-at-eq126
returns-then-s-at-eq126 c =
    stops_start c.args.s.now c.args.offset c.args.at c.refused.result c.requires.0 c.if-s-at.false c.if-s-at-eq126.true c.refused.ensures

pub returns-then-s-next : goal.returns-then-s-next
returns-then-s-next c =
    stops_escape_end c.args.s.now c.args.offset c.args.at c.nothing-then-s-next.result c.requires.0 c.if-s-at.false c.if-s-at-eq126.false c.requires.2
    c.if-s-next.true c.nothing-then-s-next.ensures

pub returns-then-s-next-eq126 : goal.returns-then-s-next-eq126
returns-then-s-next-eq126 c =
    stops_escape_start c.args.s.now c.args.offset c.args.at c.refused-then-s-next-eq126.result c.requires.0 c.if-s-at.false c.if-s-at-eq126.false c.requires.2
    c.if-s-next.false c.if-s-next-eq126.true c.refused-then-s-next-eq126.ensures

pub returns : goal.returns
returns c =
    stops_bad c.args.s.now c.args.offset c.args.at c.refused-2.result c.requires.0 c.if-s-at.false c.if-s-at-eq126.false c.requires.2
    c.if-s-next.false c.if-s-next-eq126.false c.refused-2.ensures
