-- `one_by_one` meets its contract. Assumes nothing.
use mathlib.Core.Path.{◌∙◌}
use native.Mathlib.Omega.{arith}
use lib.ListN.{length-set}
use Rattle.capture.proofs.Unescaping.{stands_ahead, nothing_stuck}
use Rattle.capture.proofs.Reaching.{reach_within, holds_byte}
use Rattle.capture.proofs.ahead.one_by_one.Goals as goal

pub overflow_add-at : goal.overflow_add-at
overflow_add-at c =
    let l = c.loop-got in
    omega (arith, reach_within c.args.s.now l.at 1 l.invariant.0 (stands_ahead _ _ _ _ c.in-Some.ensures))

pub loop-got-preserved : goal.loop-got-preserved
loop-got-preserved c =
    let l = c.loop-got in
    let e = stands_ahead _ _ _ _ c.in-Some.ensures in (
      reach_within c.args.s.now l.at 1 l.invariant.0 e,
      length-set l.store l.got c.in-Some.u.byte ∙ l.invariant.1,
      λ from h. holds_byte (l.invariant.2 from h) e (omega arith),
    )

pub returns-in_default : goal.returns-in_default
returns-in_default c =
    let l = c.loop-got in
    record { more = omega arith; limit = omega arith; holds = l.invariant.2; stuck = λ h. nothing_stuck _ _ c.in_default.ensures }
