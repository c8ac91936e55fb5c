-- What has been read is at the front of the buffer.
use Rattle.std.proofs.Common.{◌≤◌, length}
use Rattle.console.proofs.read_full.Given as goal

abbrev pub invariant-loop : goal.invariant-loop
invariant-loop g l = l.done ≤ length l.buf
