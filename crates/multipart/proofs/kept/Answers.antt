-- `kept` meets its contract. Assumes nothing.
use borrow.Author.Tests.{eq-eqb, ne_eqb}
use Rattle.multipart.specs.Assembler.{kept}
use Rattle.multipart.proofs.kept.Goals as goal

pub returns-then-counter-eq255 : goal.returns-then-counter-eq255
unfolding kept
returns-then-counter-eq255 c = simp (eq-eqb _ _ c.if-counter-eq255.true, c.put.ensures, c.gathered.ensures)

pub returns : goal.returns
unfolding kept
returns c = simp (ne_eqb _ _ c.if-counter-eq255.false, c.put.ensures, c.gathered-2.ensures)
