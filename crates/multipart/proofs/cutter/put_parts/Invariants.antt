-- `put_parts` meets its contract. The parts that remain, put where the loop stands, make the image. Assumes nothing.
use mathlib.Core.Path.{◌≡◌}
use mathlib.Core.List.{flatten}
use Prim.Native.Nat.{◌+◌, ◌-◌, ◌*◌, ◌≤◌}
use lib.ListN.{length, drop}
use lib.Seq.{sets}
use Rattle.multipart.specs.Cutting.{parts, cut_after}
use Rattle.multipart.proofs.Cutting.{remaining}
use Rattle.multipart.proofs.cutter.put_parts.Given as goal

abbrev pub invariant-loop-k : goal.invariant-loop-k
invariant-loop-k l = (l.k ≤ l.full) × (l.from + (l.full - l.k) * l.size ≤ length l.message) × (length l.out ≡ length l.initial.out)
    × (sets l.out (l.from + l.k) (remaining l.size l.k (l.full - l.k) (drop l.from l.message)) ≡ sets l.initial.out 0 (flatten (parts (cut_after l.full l.size l.message))))
