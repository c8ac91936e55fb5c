-- `take_some` meets its contract. Assumes nothing.
use native.Mathlib.Omega.{arith}
use Rattle.capture.proofs.Reaching.{continues_plain}
use Rattle.capture.proofs.ahead.take_some.Goals as goal

pub returns-then-sixteen_plain : goal.returns-then-sixteen_plain
returns-then-sixteen_plain c =
    let plain = c.sixteen_plain.ensures c.if-sixteen_plain.true in
    continues_plain 16 (omega arith) plain.0 plain.1 (omega arith) (omega arith) c.copy_sixteen.ensures
