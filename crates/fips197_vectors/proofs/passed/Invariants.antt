-- `passed` is safe: each value counts once at most. Assumes nothing.
use Rattle.std.proofs.Common.{◌≤◌}
use Rattle.fips197_vectors.proofs.passed.Given as goal

abbrev pub invariant-loop-i : goal.invariant-loop-i
invariant-loop-i g l = l.n ≤ l.i
