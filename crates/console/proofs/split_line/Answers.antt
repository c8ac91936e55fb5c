-- `split_line` meets its contract. Assumes nothing.
use Rattle.std.proofs.Common.{sym, ◌∙◌}
use Rattle.console.proofs.Lines.{line_at, no_line}
use Rattle.console.proofs.split_line.Goals as goal

pub returns-in-Some : goal.returns-in-Some
returns-in-Some c = line_at c.args.s.now c.in-Some.end (sym c.line_end.ensures ∙ c.in-Some.is)

pub returns-in-None : goal.returns-in-None
returns-in-None c = no_line c.args.s.now (sym c.line_end.ensures ∙ c.in-None.is)
