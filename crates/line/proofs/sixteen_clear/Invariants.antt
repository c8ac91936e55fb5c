-- `sixteen_clear` meets its contract. Assumes nothing.
use mathlib.Core.Bool.{false}
use Rattle.std.proofs.Common.{◌≡◌, ℕ, ◌+◌, ◌<◌, ◌≤◌, get_or}
use Rattle.line.proofs.sixteen_clear.Given as goal

abbrev pub invariant-loop-b : goal.invariant-loop-b
invariant-loop-b l = l.any ≡ false → (k : ℕ) → l.from ≤ k → k < l.from + l.b-index → get_or l.s k 0 ≡ 0x7E → ⊥
