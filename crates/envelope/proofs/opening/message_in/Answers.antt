-- `envelope::opening::message_in` meets its contract. Assumes nothing.
use mathlib.Core.Path.{sym, ◌∙◌}
use Rattle.envelope.proofs.Misfit.{none_misfit, message_part}
use Rattle.envelope.proofs.opening.message_in.Goals as goal

pub returns-then-message_misfit : goal.returns-then-message_misfit
returns-then-message_misfit c = sym ((none_misfit c.args.text.now).0 (sym c.message_misfit.ensures ∙ c.if-message_misfit.true))

pub returns : goal.returns
returns c = c.part_of.ensures ∙ message_part c.args.text.now (sym c.message_misfit.ensures ∙ c.if-message_misfit.false) c.message_size.ensures.0
