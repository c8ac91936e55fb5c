-- `aes::packed::times_x` meets its contract. Assumes nothing.
use borrow.Author.Rules.{rules}
use Rattle.aes.proofs.Elements.{times_x_is}
use Rattle.aes.proofs.packed.times_x.Goals as goal

pub returns : goal.returns
returns c = times_x_is c.args.w c.args.rest (search rules) (search rules)
