-- `numbering::pack` meets its contract. Assumes nothing.
use borrow.Author.Rules.{rules}
use Rattle.numbering.specs.Numbering.{packed}
use Rattle.numbering.proofs.pack.Goals as goal

pub returns : goal.returns
unfolding packed
returns c = search rules
