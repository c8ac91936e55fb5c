-- `Progress::limited` meets its contract. Assumes nothing.
use mathlib.Core.Path.{sym, ◌∙◌}
use Rattle.multipart.proofs.OnePart.{limited_outside, limited_within}
use Rattle.multipart.proofs.Progress.limited.Goals as goal

pub returns-then-outside : goal.returns-then-outside
returns-then-outside c = limited_outside _ _ (sym c.outside.ensures ∙ c.if-outside.true) c.gathered.ensures

pub returns : goal.returns
returns c = limited_within _ (sym c.outside.ensures ∙ c.if-outside.false)
