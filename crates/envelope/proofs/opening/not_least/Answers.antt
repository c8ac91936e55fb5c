-- `envelope::opening::not_least` meets its contract. Assumes nothing.
use Rattle.std.proofs.Common.{ap, not, ◌*◌, ℕ, length}
use lib.Dec.{eqb}
use Rattle.envelope.specs.Blocks.{not_least}
use Rattle.envelope.proofs.opening.not_least.Goals as goal

pub returns : goal.returns
unfolding not_least
returns c = ap (λ (n : ℕ). not (eqb (length c.args.text.now) (16 * n))) c.blocks_for.ensures
