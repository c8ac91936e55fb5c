-- `envelope::opening::all_zero` meets its contract. Assumes nothing.
use Rattle.std.proofs.Common.{ap, ◌∙◌}
use Rattle.envelope.specs.Characteristic.{all_zero}
use Rattle.envelope.proofs.Bytes.{zeros_told, rest_is}
use Rattle.envelope.proofs.opening.all_zero.Goals as goal

pub returns : goal.returns
returns c = zeros_told _ c.zeros.ensures ∙ ap all_zero (rest_is c.args.text.now c.args.from c.min.result c.min.ensures)
