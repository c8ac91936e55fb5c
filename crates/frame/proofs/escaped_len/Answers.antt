-- `escaped_len` meets its contract. Assumes nothing.
use mathlib.Core.Path.{ap}
use native.Mathlib.Omega.{arith}
use lib.ListN.{length}
use Rattle.frame.proofs.Escape.{rest_length, rest_none}
use Rattle.frame.proofs.escaped_len.Goals as goal

pub loop-b-preserved : goal.loop-b-preserved
loop-b-preserved c = omega (arith, rest_length c.args.s.now c.loop-b.b-index c.loop-b-test.true)

pub returns : goal.returns
returns c = omega (arith, ap length (rest_none c.args.s.now c.loop-b.b-index c.loop-b-test.false))
