-- `aes::packed::xtimes` meets its contract. Assumes nothing.
use Rattle.aes.specs.Field.{xtime}
use Rattle.aes.specs.Packed.{times_x}
use Rattle.aes.proofs.packed.xtimes.Goals as goal

pub returns : goal.returns
unfolding xtime times_x
returns c = c.times_x.ensures
