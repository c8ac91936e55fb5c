-- `uart::admitted` meets its contract. Assumes nothing.
use Rattle.std.specs.Prelude.{Ok}
use Rattle.std.proofs.lemmas.Result.{err_from_is_err_and}
use Rattle.wire.proofs.Listed.{checked_err, checked_then}
use Rattle.session.specs.Keys.{key_bytes}
use Rattle.bridge.specs.Opener.{block_rules, admin_key, session_rules, uart_entry_rules}
use Rattle.bridge.proofs.uart.admitted.Goals as goal

pub returns-in_err-judge_blocks : goal.returns-in_err-judge_blocks
unfolding uart_entry_rules
returns-in_err-judge_blocks c =
    let a = c.args in
    let p = err_from_is_err_and c.from_residual.result c.from_residual.ensures.1 in
    rw (p.1, p.2)
    (checked_err (block_rules a.payload.now a.room) (session_rules a.context a.payload.now) (Ok (key_bytes (admin_key a.context))) c.in_err-judge_blocks.ensures)

pub returns : goal.returns
unfolding uart_entry_rules
returns c =
    let a = c.args in
    checked_then (block_rules a.payload.now a.room) (session_rules a.context a.payload.now) (Ok (key_bytes (admin_key a.context))) c.in_ok-judge_blocks.ensures
    c.session_key.ensures
