-- `characteristic::judge` meets its contract. Assumes nothing.
use Rattle.std.proofs.lemmas.Result.{err_from_is_err_and}
use Rattle.session.specs.Keys.{key_bytes}
use Rattle.bridge.specs.Characteristic.{level_key, packet_entry_rules}
use Rattle.bridge.proofs.Judging.{judged_refused, judged_passed}
use Rattle.bridge.proofs.characteristic.judge.Goals as goal

pub returns-in_err-admitted : goal.returns-in_err-admitted
returns-in_err-admitted c =
    let a = c.args in
    let p = err_from_is_err_and c.from_residual.result c.from_residual.ensures.1 in
    rw (p.1, p.2) (judged_refused (packet_entry_rules a.link a.room a.packet.now) (key_bytes (level_key a.link a.packet.now)) c.in_err-admitted.ensures)

pub returns : goal.returns
returns c =
    let a = c.args in
    judged_passed (packet_entry_rules a.link a.room a.packet.now) (key_bytes (level_key a.link a.packet.now)) c.in_ok-admitted.ensures
