-- `escaped_width` meets its contract. Assumes nothing.
use mathlib.Core.Path.{sym, ap, ◌∙◌}
use native.Mathlib.Omega.{arith}
use lib.ListN.{length}
use Rattle.frame.proofs.Escape.{escape_mark, escape_plain}
use Rattle.frame.proofs.escaped_width.Goals as goal

pub returns-then-is_mark : goal.returns-then-is_mark
returns-then-is_mark c = (sym (ap length (escape_mark _ (sym c.is_mark.ensures ∙ c.if-is_mark.true))), omega arith)

pub returns-else-is_mark : goal.returns-else-is_mark
returns-else-is_mark c = (sym (ap length (escape_plain _ (sym c.is_mark.ensures ∙ c.if-is_mark.false))), omega arith)
