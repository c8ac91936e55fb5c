-- `body` meets its contract: a feed from where it began is a feed from where it is now. Assumes nothing.
use Prim.Native.Nat.{◌+◌, ◌-◌}
use mathlib.Core.Bool.{false}
use Rattle.line.specs.Receive.{holding, reading}
use Rattle.line.specs.Feed.{Skips, CountBounded}
use Rattle.line.proofs.body.Given as goal

abbrev pub invariant-loop-got : goal.invariant-loop-got
invariant-loop-got l = CountBounded (reading false l.low l.got l.size (l.count + (l.i - l.from)))
    × Skips l.s l.from (holding (reading false l.low l.had l.size l.count) l.initial.store) l.i (holding (reading false l.low l.got l.size (l.count + (l.i - l.from))) l.store)
