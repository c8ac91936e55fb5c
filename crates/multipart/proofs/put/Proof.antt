-- `put` meets its contract. Assumes nothing.
use borrow.Author.Rules.{rules}
use Rattle.multipart.proofs.OnePart.{stored}
use Rattle.multipart.proofs.put.Statement.{statement}
use Rattle.multipart.proofs.put.Tie as tie

returns : tie.Need-returns
returns c = stored _ _ _ _ _ (search rules) c.store.ensures

pub put_spec : {M : Type 1} → statement M
put_spec = tie.close (tie.spec (λ c κs. search rules) returns)
