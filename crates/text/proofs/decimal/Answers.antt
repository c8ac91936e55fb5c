-- `decimal` meets its contract. Assumes nothing.
use Rattle.text.proofs.Digits.{left_less, left_none}
use Rattle.text.proofs.Puts.{puts_same}
use Prim.Native.Nat.{◌-◌}
use native.Mathlib.Omega.{arith}
use Rattle.text.proofs.decimal.Goals as goal

pub loop-rest-preserved : goal.loop-rest-preserved
loop-rest-preserved c =
    let l = c.loop-rest in
    left_less l.invariant (l.i - 1) (omega arith) c.loop-rest-test.true c.digit.ensures

pub returns : goal.returns
returns c =
    let l = c.loop-rest in
    puts_same c.put.ensures (left_none l.invariant (l.i - 1) (omega arith) (omega arith) c.digit-2.ensures)
