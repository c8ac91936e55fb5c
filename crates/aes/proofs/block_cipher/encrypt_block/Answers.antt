-- `aes::block_cipher::encrypt_block` meets its contract. Assumes nothing.
use Rattle.std.proofs.Common.{[], ap, ap₂, ◌∙◌, arith, rules, ◌<◌, drop}
use lib.ListN.{get_or}
use lib.Seq.{get_or-take, get_or-drop}
use Rattle.aes.specs.Cipher.{add_round_key, of_state, round}
use Rattle.aes.proofs.Loops.{rounds_start, rounds_turn, rounds_end}
use Rattle.aes.proofs.block_cipher.encrypt_block.Goals as goal

pub loop-k-init : goal.loop-k-init
loop-k-init g c = rounds_start c.args.keys.now _

pub loop-k-preserved : goal.loop-k-preserved
unfolding round
loop-k-preserved g c =
    let i = c.loop-k.k-index in
    let keys = c.args.keys.now in
    let h : i < 9 = search rules in
    let key = get_or-take 9 (drop 1 keys) i [] h ∙ get_or-drop 1 keys i [] ∙ ap (λ k. get_or keys k []) (omega arith) in
    rounds_turn keys _ i c.loop-k.invariant h (c.add_round_key-s-in-loop-k.ensures ∙ ap₂ add_round_key key c.mix.ensures)

pub returns : goal.returns
returns g c =
    let keys = c.args.keys.now in
    c.of_state.ensures ∙ ap of_state (c.add_round_key.ensures ∙ ap (add_round_key (get_or keys 10 [])) c.substitute.ensures)
    ∙ rounds_end keys c.args.block c.loop-k.k-index c.to_state.ensures c.add_round_key-s.ensures c.loop-k.invariant (search rules)
