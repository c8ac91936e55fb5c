-- `put` meets its contract. Assumes nothing.
use mathlib.Core.Path.{sym, ap, ◌∙◌}
use native.Mathlib.Omega.{arith}
use lib.ListN.{length}
use lib.Seq.{sets}
use Rattle.frame.proofs.Escape.{rest_length, rest_none, rest_stored}
use Rattle.frame.proofs.put.Goals as goal

pub put_byte-at-requires : goal.put_byte-at-requires
put_byte-at-requires c = omega (arith, rest_length c.args.s.now c.loop-b.b-index c.loop-b-test.true)

pub loop-b-preserved : goal.loop-b-preserved
loop-b-preserved c =
    let l = c.loop-b in
    let p = c.put_byte-at in (
      omega (arith, rest_length c.args.s.now l.b-index c.loop-b-test.true),
      rest_stored _ _ _ _ _ _ _ c.loop-b-test.true p.ensures.0 p.ensures.1 l.invariant.1,
      omega (arith, p.auto.out),
    )

pub returns : goal.returns
returns c =
    let l = c.loop-b in
    let n = rest_none c.args.s.now l.b-index c.loop-b-test.false in
    (omega (arith, ap length n), ap (sets l.out l.at) (sym n) ∙ l.invariant.1)
