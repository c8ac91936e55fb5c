-- `named` meets its contract. Assumes nothing.
use Rattle.text.proofs.Puts.{puts_then}
use Rattle.text.proofs.named.Goals as goal

pub returns : goal.returns
returns c = puts_then c.put-behind.ensures c.decimal.ensures
