-- `refused_numbers` meets its contract. Assumes nothing.
use Rattle.text.proofs.Puts.{puts_then}
use Rattle.listing.proofs.refused_numbers.Goals as goal

pub returns : goal.returns
returns c = puts_then c.put-behind.ensures c.decimals.ensures
