-- `aes::ctr::apply_ctr` meets its contract. Assumes nothing.
use Rattle.std.proofs.Common.{arith}
use Rattle.aes.proofs.Loops.{summed_start, summed_turn, no_room_lem, all_summed}
use Rattle.aes.proofs.ctr.apply_ctr.Goals as goal

pub returns-then-out-src : goal.returns-then-out-src
returns-then-out-src g c =
    let a = c.args in
    no_room_lem a.packet_nonce a.session_nonce a.src.now a.out.now a.key (omega arith)

pub loop-i-init : goal.loop-i-init
loop-i-init g c =
    let a = c.args in
    summed_start a.packet_nonce a.session_nonce a.src.now a.out.now c.expand_key-keys.result c.blocks_for-blocks.result

pub loop-i-preserved : goal.loop-i-preserved
loop-i-preserved g c =
    let a = c.args in
    let x = c.xor_block in
    summed_turn a.packet_nonce a.session_nonce a.src.now a.out.now c.expand_key-keys.result c.loop-i.i c.loop-i.invariant
    c.blocks_for-blocks.ensures c.loop-i-test.true c.counter_block-counter.ensures c.encrypt_block.ensures x.ensures x.auto.out

pub returns : goal.returns
returns g c =
    let a = c.args in
    all_summed a.packet_nonce a.session_nonce a.src.now a.out.now a.key (omega arith) c.expand_key-keys.ensures
    c.loop-i.invariant c.blocks_for-blocks.ensures c.loop-i-test.false
