-- `over_long` meets its contract. Assumes nothing.
use borrow.Author.Tests.{eq-eqb, ne_eqb}
use Rattle.multipart.specs.Assembler.{over_long}
use Rattle.multipart.proofs.over_long.Goals as goal

pub returns-then-counter-ne255 : goal.returns-then-counter-ne255
unfolding over_long
returns-then-counter-ne255 c = λ s. simp (ne_eqb _ _ c.if-counter-ne255.true, c.discarding.ensures)

pub returns : goal.returns
unfolding over_long
returns c = λ s. simp (eq-eqb _ _ c.if-counter-ne255.false, c.gathered.ensures)
