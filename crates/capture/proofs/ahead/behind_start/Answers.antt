-- `behind_start` meets its contract. Assumes nothing.
use Prim.Native.Nat.{◌+◌}
use native.Mathlib.Omega.{arith}
use Rattle.capture.proofs.Unescaping.{stands_ahead, nothing_stuck}
use Rattle.capture.proofs.Reaching.{reach_within}
use Rattle.capture.proofs.NextEvents.{next_no_low, next_no_high, next_by_size}
use Rattle.capture.proofs.ahead.behind_start.Goals as goal

pub broken-requires : goal.broken-requires
broken-requires c = (omega arith, omega arith, nothing_stuck _ _ c.in_default.ensures)

pub returns-in_default : goal.returns-in_default
returns-in_default c =
    next_no_low c.args.s.now c.args.offset c.broken.result c.args.store.now c.requires (nothing_stuck _ _ c.in_default.ensures) c.broken.ensures

pub overflow_add-next : goal.overflow_add-next
overflow_add-next c =
    let low = reach_within c.args.s.now (c.args.offset + 1) 1 (omega arith) (stands_ahead _ _ _ _ c.in-Some.ensures) in
    omega arith

pub broken-requires-in_default-unescape_at : goal.broken-requires-in_default-unescape_at
broken-requires-in_default-unescape_at c =
    let low = reach_within c.args.s.now (c.args.offset + 1) 1 (omega arith) (stands_ahead _ _ _ _ c.in-Some.ensures) in
    (omega arith, low, nothing_stuck _ _ c.in_default-unescape_at.ensures)

pub returns-in_default-unescape_at : goal.returns-in_default-unescape_at
returns-in_default-unescape_at c =
    next_no_high c.args.s.now c.args.offset c.broken-in_default-unescape_at.result c.args.store.now c.requires (stands_ahead _ _ _ _ c.in-Some.ensures)
    (nothing_stuck _ _ c.in_default-unescape_at.ensures) c.broken-in_default-unescape_at.ensures

pub sized-requires : goal.sized-requires
sized-requires c =
    let low = reach_within c.args.s.now (c.args.offset + 1) 1 (omega arith) (stands_ahead _ _ _ _ c.in-Some.ensures) in
    let high = reach_within c.args.s.now (c.args.offset + 1 + c.in-Some.low.width) 1 low (stands_ahead _ _ _ _ c.in-Some-unescape_at.ensures) in
    (omega arith, high)

pub returns : goal.returns
returns c =
    next_by_size c.args.s.now c.args.offset c.sized.result _ c.requires (stands_ahead _ _ _ _ c.in-Some.ensures)
    (stands_ahead _ _ _ _ c.in-Some-unescape_at.ensures) (omega (arith, c.from_le_bytes-size.ensures, c.from.ensures)) c.sized.ensures
