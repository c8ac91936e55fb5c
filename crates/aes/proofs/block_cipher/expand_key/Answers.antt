-- `aes::block_cipher::expand_key` meets its contract. Assumes nothing.
use Rattle.aes.proofs.Loops.{expanded_start, expanded_turn, all_expanded}
use Rattle.aes.proofs.block_cipher.expand_key.Goals as goal

pub loop-i-init : goal.loop-i-init
loop-i-init g c = expanded_start c.args.key

pub loop-i-preserved : goal.loop-i-preserved
loop-i-preserved g c =
    let l = c.loop-i in
    expanded_turn c.args.key l.keys l.c l.i l.invariant c.loop-i-test.true c.next_key.ensures c.xtime-c.ensures

pub returns : goal.returns
returns g c =
    let l = c.loop-i in
    all_expanded c.args.key l.keys l.c l.i l.invariant c.loop-i-test.false
