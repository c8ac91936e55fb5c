-- `envelope::opening::packet_in` meets its contract. Assumes nothing.
use mathlib.Core.Path.{sym, ◌∙◌}
use Rattle.envelope.proofs.Misfit.{none_misfit, packet_part}
use Rattle.envelope.proofs.opening.packet_in.Goals as goal

pub returns-then-packet_misfit : goal.returns-then-packet_misfit
returns-then-packet_misfit c = sym ((none_misfit c.args.text.now).1 (sym c.packet_misfit.ensures ∙ c.if-packet_misfit.true))

pub returns : goal.returns
returns c = c.part_of.ensures ∙ packet_part c.args.text.now (sym c.packet_misfit.ensures ∙ c.if-packet_misfit.false) c.packet_size.ensures.0
