-- `unescape` meets its contract. Assumes nothing.
use native.Mathlib.Omega.{arith}
use Rattle.capture.proofs.Reaching.{holds_none}
use Rattle.capture.proofs.ahead.unescape.Goals as goal

pub take_some-more-requires : goal.take_some-more-requires
take_some-more-requires c =
    (omega arith, omega arith, (c.loop-t.invariant.2 c.args.from (holds_none c.args.s.now c.args.from c.args.store.now c.requires.0)).within)
