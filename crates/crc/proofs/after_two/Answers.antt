-- `after_two` meets its contract. Assumes nothing.
use mathlib.Core.Path.{ap₂, ◌∙◌}
use Prim.Native.Nat.{ℕ}
use native.Mathlib.Omega.{arith}
use lib.Bits.{bit_xor}
use lib.ListN.{get_or}
use Rattle.crc.proofs.Linear.{by_two}
use Rattle.crc.proofs.TableRule.{once, twice, once_shifted, twice_shifted}
use Rattle.crc.proofs.after_two.Goals as goal

pub returns : goal.returns
unfolding once twice
returns c =
    let a = c.args in
    ap₂ (λ (i j : ℕ). bit_xor (get_or twice i 0) (get_or once j 0)) c.entry-i.ensures.0 c.entry-j.ensures.0
    ∙ by_two a.c a.a (omega arith) (omega arith) once twice once_shifted twice_shifted a.b (omega arith)
