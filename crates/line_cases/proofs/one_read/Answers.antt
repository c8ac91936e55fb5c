-- `line_cases::one_read` is safe and ends: each turn takes a byte at least. Assumes nothing.
use native.Mathlib.Omega.{arith}
use Rattle.line.proofs.Feeding.{advances}
use Rattle.line_cases.proofs.one_read.Goals as goal

pub loop-i-smaller : goal.loop-i-smaller
loop-i-smaller c =
    omega (arith, advances c.advance-a.ensures c.loop-i-test.true)
