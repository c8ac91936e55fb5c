-- `out_of_turn` meets its contract. Assumes nothing.
use mathlib.Core.Path.{sym, ◌∙◌}
use borrow.Author.Tests.{eq-eqb, ne_eqb}
use Rattle.multipart.specs.Assembler.{out_of_turn}
use Rattle.multipart.proofs.out_of_turn.Goals as goal

pub returns-then-counter-eq255 : goal.returns-then-counter-eq255
unfolding out_of_turn
returns-then-counter-eq255 c = simp (eq-eqb _ _ c.if-counter-eq255.true, c.gathered.ensures)

pub returns-then-is_first : goal.returns-then-is_first
unfolding out_of_turn
returns-then-is_first c =
    simp (ne_eqb _ _ c.if-counter-eq255.false, sym c.is_first.ensures ∙ c.if-is_first.true, c.put.ensures, c.gathered-then-is_first.ensures)

pub returns : goal.returns
unfolding out_of_turn
returns c =
    simp (ne_eqb _ _ c.if-counter-eq255.false, sym c.is_first.ensures ∙ c.if-is_first.false, c.discarding.ensures)
