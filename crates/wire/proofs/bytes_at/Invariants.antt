-- `bytes_at` meets its contract: the bytes before an index are written. Assumes nothing.
use Rattle.std.proofs.Common.{ℕ, ◌<◌, ◌≡◌, get_or, length}
use Rattle.wire.proofs.bytes_at.Given as goal

abbrev pub invariant-loop-k : goal.invariant-loop-k
invariant-loop-k g l = (length l.byte-items ≡ g.row.N) × ((j : ℕ) → j < l.k → get_or l.byte-items j 0 ≡ get_or l.rest j 0)
