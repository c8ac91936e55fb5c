-- `pairs` meets its contract. Assumes nothing.
use Rattle.std.proofs.Common.{arith, ◌∙◌}
use Rattle.text.proofs.Puts.{leaves_less, leaves_none}
use Rattle.text.proofs.Fields.{pairs_chunk, short_pairs}
use Rattle.text.proofs.reading.pairs.Goals as goal

pub loop-pair-preserved : goal.loop-pair-preserved
loop-pair-preserved c =
    let l = c.loop-pair.invariant in
    let s = c.in-Some.ensures.steps in (
      omega (arith, s.0, l.2),
      tt,
      s.0 ∙ l.2,
      leaves_less l.3 (pairs_chunk c.in-Some.pair.now _ (s.1.1 ∙ l.2) s.1.0 c.value.ensures.0 c.value-in-loop-pair.ensures.0) c.put_byte-behind.ensures,
    )

pub returns : goal.returns
returns c =
    let l = c.loop-pair.invariant in
    leaves_none l.3 (short_pairs _ (omega (arith, c.in-None.ensures.steps.1.0, l.2)))
