-- `body` meets its contract. Assumes nothing.
use native.Mathlib.Omega.{arith}
use Rattle.line.proofs.Feeding.{skips_byte, stands_unescapes}
use Rattle.line.proofs.body.Goals as goal

pub loop-got-preserved : goal.loop-got-preserved
loop-got-preserved c =
    let u = stands_unescapes _ _ _ _ c.in-Some.ensures in
    (omega (arith, u.narrow, c.loop-got.invariant.1.forward), skips_byte _ _ _ _ _ _ _ _ _ _ _ c.loop-got.invariant.1 u (omega arith) (omega arith) (omega arith) (omega arith) c.loop-got.invariant.0)
