-- `aes::packed::xtime` meets its contract. Assumes nothing.
use borrow.Author.Rules.{rules}
use Rattle.aes.specs.Field.{xtime}
use Rattle.aes.proofs.Bytes.{xtime_byte}
use Rattle.aes.proofs.Elements.{lowest}
use Rattle.aes.proofs.packed.xtime.Goals as goal

pub returns : goal.returns
returns c = lowest xtime xtime_byte c.args.b (search rules) c.xtimes.ensures
