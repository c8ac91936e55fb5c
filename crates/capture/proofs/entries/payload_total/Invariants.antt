-- `payload_total` meets its contract. Assumes nothing.
use mathlib.Core.Path.{◌≡◌}
use Prim.Native.Nat.{◌*◌, ◌≤◌}
use lib.ListN.{take}
use Rattle.capture.specs.Entry.{payload_total}
use Rattle.capture.proofs.entries.payload_total.Given as goal

abbrev pub invariant-loop-entry : goal.invariant-loop-entry
invariant-loop-entry l = (l.total ≡ payload_total (take l.entry-index l.entry-items)) × (l.total ≤ 65535 * l.entry-index)
