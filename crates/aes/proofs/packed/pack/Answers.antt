-- `aes::packed::pack` meets its contract. Assumes nothing.
use native.Mathlib.Omega.{arith}
use Rattle.aes.specs.Packed.{packed}
use Rattle.aes.proofs.packed.pack.Goals as goal

pub returns : goal.returns
unfolding packed
returns c = omega (arith, c.from_le_bytes.ensures)
