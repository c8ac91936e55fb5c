-- `aes::ctr::xor_block` meets its contract: the bytes passed are a run of stores. Assumes nothing.
use Rattle.std.proofs.Common.{◌≡◌, ◌∙◌, arith, rules, length, drop}
use lib.ListN.{length-set, length-drop}
use Rattle.aes.specs.Ctr.{xors}
use Rattle.aes.proofs.KeyStream.{length_xors, xor_turn, sets_cut}
use Rattle.aes.proofs.ctr.xor_block.Goals as goal

pub loop-j-preserved : goal.loop-j-preserved
loop-j-preserved c =
    let a = c.args in
    let l = c.loop-j in
    let n : length a.block ≡ 16 = search rules in
    (rw l.invariant.0 (xor_turn a.src.now a.block a.out.now a.at l.j (omega arith) (omega arith)), simp length-set l.invariant.1)

pub returns : goal.returns
returns c =
    let a = c.args in
    let l = c.loop-j in
    let s = drop a.at a.src.now in
    let n : length a.block ≡ 16 = search rules in
    l.invariant.0 ∙ sets_cut (xors s a.block) a.out.now a.at l.j (omega (arith, length_xors s a.block, length-drop a.at a.src.now))
