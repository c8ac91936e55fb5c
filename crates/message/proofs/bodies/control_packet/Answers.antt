-- `control_packet` meets its contract. Assumes nothing.
use Rattle.std.proofs.lemmas.Result.{err_from_is_err_and}
use Rattle.message.proofs.Reading.{packet_read}
use Rattle.message.proofs.bodies.control_packet.Goals as goal

pub returns-in_err-command : goal.returns-in_err-command
returns-in_err-command c =
    let g = c.args in
    let p = err_from_is_err_and c.from_residual.result c.from_residual.ensures.1 in
    rw (p.1, p.2) (packet_read g.d.now g.form g.mode (rw c.access_of.ensures at c.in_err-command.ensures.answer))

pub returns : goal.returns
returns c =
    let g = c.args in
    packet_read g.d.now g.form g.mode (rw c.access_of.ensures at c.in_ok-command.ensures.answer)
