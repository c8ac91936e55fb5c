-- `take_part` meets its contract. Assumes nothing.
use borrow.Author.Tests.{eq-eqb}
use Rattle.multipart.specs.Assembler.{step_of}
use Rattle.multipart.proofs.OnePart.{takes_part, takes_counted}
use Rattle.multipart.proofs.take_part.Goals as goal

pub returns-then-part-eq0 : goal.returns-then-part-eq0
unfolding step_of
returns-then-part-eq0 c = takes_part _ _ _ _ _ (simp (eq-eqb _ _ c.if-part-eq0.true))

pub returns : goal.returns
returns c =
    takes_counted _ _ _ _ _ _ c.if-part-eq0.false c.limited.ensures.0 c.counted.ensures
