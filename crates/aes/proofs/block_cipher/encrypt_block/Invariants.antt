-- After i of the middle rounds the state is what `rounds` says. Assumes nothing.
use Rattle.aes.proofs.Loops.{AfterRounds}
use Rattle.aes.proofs.block_cipher.encrypt_block.Given as goal

abbrev pub invariant-loop-k : goal.invariant-loop-k
invariant-loop-k g l = let rows = g.C.BlockCipher.rows_of in AfterRounds l.keys (rows l.initial.s) (rows l.s) l.k-index
