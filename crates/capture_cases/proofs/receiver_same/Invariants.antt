-- `capture_cases::receiver_same` is safe: each byte of the capture brings at most 65,535 bytes of payload. Assumes nothing.
use Prim.Native.Nat.{◌*◌, ◌≤◌}
use Rattle.capture_cases.proofs.receiver_same.Given as goal

abbrev pub invariant-loop-i : goal.invariant-loop-i
invariant-loop-i l = l.c.bytes ≤ 65535 * l.i
