-- The room holds the bytes summed with the key stream of i blocks. Assumes nothing.
use Rattle.aes.proofs.Loops.{Summed}
use Rattle.aes.proofs.ctr.apply_ctr.Given as goal

abbrev pub invariant-loop-i : goal.invariant-loop-i
invariant-loop-i g l = Summed l.packet_nonce l.session_nonce l.src l.initial.out l.keys l.blocks l.out l.i
