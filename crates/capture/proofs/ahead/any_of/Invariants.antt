-- `any_of` meets its contract. Assumes nothing.
use mathlib.Core.Path.{◌≡◌}
use mathlib.Core.Bool.{false}
use Prim.Native.Nat.{◌+◌}
use Rattle.capture.specs.Looking.{NoneIn}
use Rattle.capture.proofs.ahead.any_of.Given as goal

abbrev pub invariant-loop-x : goal.invariant-loop-x
invariant-loop-x l = l.any ≡ false → NoneIn l.s l.from (l.from + l.x-index) l.a l.b
