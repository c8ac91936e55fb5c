-- The round keys up to i stand, and c is the round constant of the next. Assumes nothing.
use Rattle.aes.proofs.Loops.{Expanded}
use Rattle.aes.proofs.block_cipher.expand_key.Given as goal

abbrev pub invariant-loop-i : goal.invariant-loop-i
invariant-loop-i g l = Expanded l.fn.key l.keys l.c l.i
