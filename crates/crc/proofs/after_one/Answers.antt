-- `after_one` meets its contract. Assumes nothing.
use mathlib.Core.Path.{ap, ◌∙◌}
use Prim.Native.Nat.{ℕ, ◌*◌, ◌%◌}
use native.Mathlib.Omega.{arith}
use lib.Bits.{bit_xor}
use lib.ListN.{get_or}
use Rattle.crc.proofs.Linear.{by_one}
use Rattle.crc.proofs.TableRule.{once, once_shifted}
use Rattle.crc.proofs.after_one.Goals as goal

pub returns : goal.returns
unfolding once
returns c =
    let a = c.args in
    ap (λ (k : ℕ). bit_xor (get_or once k 0) (a.c * 256 % 0x10000)) c.entry-i.ensures.0
    ∙ by_one a.c a.a (omega arith) (omega arith) once once_shifted
