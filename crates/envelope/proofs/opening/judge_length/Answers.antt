-- `envelope::opening::judge_length` meets its contract. Assumes nothing.
use mathlib.Core.Path.{sym, ◌∙◌}
use borrow.Author.Tests.{eq-eqb, ne_eqb}
use Rattle.envelope.specs.Blocks.{wrong_length}
use Rattle.envelope.proofs.opening.judge_length.Goals.{then-outside-via-then-outside, then-outside-via-else-outside+then-payload-n}
use Rattle.envelope.proofs.opening.judge_length.Goals as goal

pub returns-then-outside : goal.returns-then-outside
unfolding wrong_length
returns-then-outside c =
    elim c.then-outside.branch [
      | then-outside-via-then-outside w ↦ simp (sym c.blocks_in-n.ensures, sym c.outside.ensures ∙ w.if-outside.true)
      | then-outside-via-else-outside+then-payload-n w ↦
          simp (sym c.blocks_in-n.ensures, sym c.outside.ensures ∙ w.if-outside.false, ne_eqb _ _ w.if-payload-n.true)
    ]

pub returns : goal.returns
unfolding wrong_length
returns c = simp (sym c.blocks_in-n.ensures, sym c.outside.ensures ∙ c.if-outside.false, eq-eqb _ _ c.if-payload-n.false)
