-- `envelope::opening::judge_text` meets its contract. Assumes nothing.
use mathlib.Core.Path.{sym, ◌∙◌}
use borrow.Author.Tests.{eq-eqb, ne_eqb}
use Rattle.envelope.specs.Sealed.{late_rules}
use Rattle.envelope.proofs.opening.judge_text.Goals as goal

pub returns-then-read_u32-ne3405691582 : goal.returns-then-read_u32-ne3405691582
unfolding late_rules
returns-then-read_u32-ne3405691582 c = simp (sym c.read_u32.ensures, ne_eqb _ _ c.if-read_u32-ne3405691582.true)

pub returns-then-message_misfit : goal.returns-then-message_misfit
unfolding late_rules
returns-then-message_misfit c = simp (sym c.read_u32.ensures, eq-eqb _ _ c.if-read_u32-ne3405691582.false, sym c.message_misfit.ensures ∙ c.if-message_misfit.true)

pub returns : goal.returns
unfolding late_rules
returns c = simp (sym c.read_u32.ensures, eq-eqb _ _ c.if-read_u32-ne3405691582.false, sym c.message_misfit.ensures ∙ c.if-message_misfit.false)
