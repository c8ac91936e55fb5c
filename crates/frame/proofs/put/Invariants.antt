-- `put` meets its contract. Assumes nothing.
use mathlib.Core.Path.{◌≡◌}
use Prim.Native.Nat.{◌+◌}
use lib.ListN.{length, drop}
use Rattle.frame.specs.Image.{escape}
use lib.Seq.{sets}
use Rattle.frame.proofs.put.Given as goal

abbrev pub invariant-loop-b : goal.invariant-loop-b
invariant-loop-b l = (l.at + length (escape (drop l.b-index l.s)) ≡ l.from + length (escape l.s)) × (sets l.out l.at (escape (drop l.b-index l.s)) ≡ sets l.initial.out l.from (escape l.s)) × (length l.out ≡ length l.initial.out)
