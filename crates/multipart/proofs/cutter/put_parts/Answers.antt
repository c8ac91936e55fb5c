-- `put_parts` meets its contract. The parts that remain, put where the loop stands, make the image. Assumes nothing.
use native.Mathlib.Omega.{arith}
use Rattle.multipart.proofs.Putting.{bytes_less, part_put, last_put}
use Rattle.multipart.proofs.cutter.put_parts.Goals as goal

pub loop-k-preserved : goal.loop-k-preserved
loop-k-preserved c =
    let a = c.args in
    let p = c.put_part in
    let h = c.loop-k-test.true in (
      omega arith,
      omega (arith, bytes_less a.size h),
      omega (arith, p.auto.out),
      part_put a.size h c.loop-k.from a.message.now c.loop-k.out _ _ c.loop-k.invariant.1 p.ensures c.loop-k.invariant.3,
    )

pub returns : goal.returns
returns c =
    let a = c.args in
    last_put a.size a.full c.loop-k.from a.message.now c.loop-k.out _ _ (omega arith) c.put_part-2.ensures c.loop-k.invariant.3
