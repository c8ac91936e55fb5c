-- The bytes summed so far are a run of stores. Assumes nothing.
use Rattle.std.proofs.Common.{◌≡◌, length, take, drop}
use Rattle.std.proofs.lemmas.List.Edits.{sets}
use Rattle.aes.specs.Ctr.{xors}
use Rattle.aes.proofs.ctr.xor_block.Given as goal

abbrev pub invariant-loop-j : goal.invariant-loop-j
invariant-loop-j l = (l.out ≡ sets l.initial.out l.at (take l.j (xors (drop l.at l.src) l.block))) × (length l.out ≡ length l.initial.out)
