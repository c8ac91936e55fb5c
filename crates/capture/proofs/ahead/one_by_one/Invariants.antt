-- `one_by_one` meets its contract. Assumes nothing.
use mathlib.Core.Path.{◌≡◌}
use Prim.Native.Nat.{ℕ, ◌≤◌}
use lib.ListN.{length}
use Rattle.capture.specs.Looking.{Holds}
use Rattle.capture.proofs.ahead.one_by_one.Given as goal

abbrev pub invariant-loop-got : goal.invariant-loop-got
invariant-loop-got l = (l.at ≤ length l.s) × (length l.store ≡ length l.initial.store) × ((from : ℕ) → Holds l.s from l.fn.had.got l.fn.had.at l.initial.store → Holds l.s from l.got l.at l.store)
