-- `times` meets its contract. Assumes nothing.
use Prim.Native.Nat.{◌-◌}
use Rattle.text.specs.Reading.{times, pairs}
use Rattle.text.proofs.Puts.{Leaves}
use Rattle.text.proofs.reading.times.Given as goal

abbrev pub invariant-loop : goal.invariant-loop
invariant-loop l = Leaves (times l.n (pairs l.s)) l.at l.initial.out (times (l.n - l.counter) (pairs l.s)) l.behind l.out
