-- `cut` meets its contract. Assumes nothing.
use Rattle.multipart.proofs.Putting.{cut_many, cut_short, cut_made}
use Rattle.multipart.proofs.cutter.cut.Goals as goal

pub returns-then-full-gt255 : goal.returns-then-full-gt255
returns-then-full-gt255 c = cut_many _ _ _ c.if-len-gt500.false _ c.if-size-eq0.false c.parts_before-full.ensures.0 c.if-full-gt255.true

pub returns-then-out-total : goal.returns-then-out-total
returns-then-out-total c =
    cut_short _ _ _ c.if-len-gt500.false _ c.if-size-eq0.false c.parts_before-full.ensures.0
    c.if-full-gt255.false
    c.if-out-total.true

pub returns : goal.returns
returns c =
    cut_made _ _ _ c.if-len-gt500.false _ c.if-size-eq0.false c.parts_before-full.ensures.0 c.if-full-gt255.false
    c.if-out-total.false
    c.put_parts.ensures
