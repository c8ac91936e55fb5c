-- `read_control` meets its contract. Assumes nothing.
use mathlib.Core.Path.{◌∙◌, sym}
use Rattle.control.proofs.Reading.{control_read}
use Rattle.control.proofs.Meaning.{reads_control}
use borrow.Author.Tests.{eq-eqb}
use Rattle.control.proofs.read_control.Goals as goal

pub returns : goal.returns
returns c =
    let g = c.args in
    reads_control g.packet.now g.mode g.access
    (c.read_command.ensures ∙ sym (control_read g.packet.now g.mode g.access ∙ simp (eq-eqb _ _ (rw c.read_u16.ensures.0 at c.if-packet-read_u16.false))))
