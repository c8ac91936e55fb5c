-- `escaped_len` meets its contract. Assumes nothing.
use mathlib.Core.Path.{◌≡◌}
use Prim.Native.Nat.{◌+◌, ◌*◌, ◌≤◌}
use lib.ListN.{length, drop}
use Rattle.frame.specs.Image.{escape}
use Rattle.frame.proofs.escaped_len.Given as goal

abbrev pub invariant-loop-b : goal.invariant-loop-b
invariant-loop-b l = (l.n + length (escape (drop l.b-index l.s)) ≡ length (escape l.s)) × (l.n ≤ 2 * l.b-index)
