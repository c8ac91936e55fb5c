-- `refused_line` meets its contract. Assumes nothing.
use Rattle.text.proofs.Puts.{puts_then}
use Rattle.listing.proofs.refused_line.Goals as goal

pub returns : goal.returns
returns c = puts_then c.refused_words-behind.ensures c.put.ensures
