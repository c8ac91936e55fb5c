-- `judge_blocks` meets its contract. Assumes nothing.
use mathlib.Core.List.{[], ◌∷◌}
use Rattle.std.specs.Prelude.{Ok}
use Rattle.std.proofs.lemmas.Result.{err_from_is_err_and}
use Rattle.wire.proofs.Listed.{checked_err, checked_then}
use Rattle.envelope.specs.Blocks.{length_rule, room_rule}
use Rattle.bridge.proofs.blocks.judge_blocks.Goals as goal

pub returns-in_err-judge_length : goal.returns-in_err-judge_length
returns-in_err-judge_length c =
    let a = c.args in
    let p = err_from_is_err_and c.from_residual.result c.from_residual.ensures.1 in
    rw (p.1, p.2) (checked_err (length_rule a.payload.now ∷ []) (room_rule a.payload.now a.room ∷ []) (Ok tt) c.in_err-judge_length.ensures)

pub returns : goal.returns
returns c =
    let a = c.args in
    checked_then (length_rule a.payload.now ∷ []) (room_rule a.payload.now a.room ∷ []) (Ok tt) c.in_ok-judge_length.ensures c.judge_room.ensures
