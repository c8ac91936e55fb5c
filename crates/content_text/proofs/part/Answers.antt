-- `part` meets its contract. Assumes nothing.
use Rattle.text.proofs.Puts.{puts_then}
use Rattle.content_text.proofs.part.Goals as goal

pub returns : goal.returns
returns c = puts_then c.named-behind.ensures c.named.ensures
