-- `read_type` meets its contract. Assumes nothing.
use mathlib.Core.Path.{refl}
use Rattle.message.specs.Table.{type_of}
use Rattle.message.proofs.Reading.{type_read}
use Rattle.message.proofs.read_type.Goals as goal

pub returns-in-0 : goal.returns-in-0
returns-in-0 c = let g = c.args in rw c.in-0.is (type_read (type_of 0) g.d.now g.form g.required g.mode refl (c.hello.ensures g.form g.mode) c.in_form.ensures)

pub returns-in-1 : goal.returns-in-1
returns-in-1 c = let g = c.args in rw c.in-1.is (type_read (type_of 1) g.d.now g.form g.required g.mode refl (c.session_nonce.ensures g.form g.mode) c.in_form-in-1.ensures)

pub returns-in-2 : goal.returns-in-2
returns-in-2 c = let g = c.args in rw c.in-2.is (type_read (type_of 2) g.d.now g.form g.required g.mode refl (c.heartbeat.ensures g.form g.mode) c.in_form-in-2.ensures)

pub returns-in-3 : goal.returns-in-3
returns-in-3 c = let g = c.args in rw c.in-3.is (type_read (type_of 3) g.d.now g.form g.required g.mode refl (c.status.ensures g.form g.mode) c.in_form-in-3.ensures)

pub returns-in-4 : goal.returns-in-4
returns-in-4 c = let g = c.args in rw c.in-4.is (type_read (type_of 4) g.d.now g.form g.required g.mode refl (c.get_mac.ensures g.form g.mode) c.in_form-in-4.ensures)

pub returns-in-11 : goal.returns-in-11
returns-in-11 c = let g = c.args in rw c.in-11.is (type_read (type_of 11) g.d.now g.form g.required g.mode refl (c.hub_reply.ensures g.form g.mode) c.in_form-in-11.ensures)

pub returns-in-10 : goal.returns-in-10
returns-in-10 c =
    let g = c.args in
    rw c.in-10.is (type_read (type_of 10) g.d.now g.form g.required g.mode refl c.control_packet.ensures c.in_form-in-10.ensures)
