-- `skip` meets its contract. Assumes nothing.
use mathlib.Core.Path.{sym, ◌∙◌}
use Rattle.line.proofs.Feeding.{skips_from, passes_noise}
use Rattle.line.proofs.skip.Goals as goal

pub returns-then-not-busy : goal.returns-then-not-busy
returns-then-not-busy c = passes_noise c.first_start.ensures _ _ (sym c.busy.ensures ∙ c.if-not-busy.true)

pub returns : goal.returns
returns c = skips_from _ (sym c.busy.ensures ∙ c.if-not-busy.false) c.if-progress.false c.body.ensures
