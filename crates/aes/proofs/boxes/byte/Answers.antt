-- `aes::boxes::byte` meets its contract. Assumes nothing.
use Rattle.std.proofs.Common.{rules}
use Rattle.aes.proofs.Elements.{lowest}
use Rattle.aes.proofs.boxes.byte.Goals as goal

pub returns : goal.returns
returns g c = lowest g.S.Substitution.image c.eight.ensures.bytes c.args.b (search rules) c.eight.ensures.each
