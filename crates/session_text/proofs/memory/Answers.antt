-- `memory` meets its contract. Assumes nothing.
use borrow.Author.Tests.{ne_eqb}
use Rattle.text.proofs.Puts.{puts_then}
use Rattle.session_text.proofs.memory.Goals as goal

pub returns : goal.returns
returns c =
    rw (← c.filled-n.ensures.0, ne_eqb _ 0 c.if-n-eq0.false) (puts_then c.named-behind.ensures c.put_places.ensures)
