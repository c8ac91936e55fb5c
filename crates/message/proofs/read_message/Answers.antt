-- `read_message` meets its contract. Assumes nothing.
use borrow.Author.Tests.{le-ltb}
use Rattle.wire.proofs.Fields.{to_end}
use Rattle.message.proofs.Meaning.{reads_message}
use Rattle.message.proofs.read_message.Goals as goal

pub returns : goal.returns
returns c =
    let g = c.args in
    reads_message g.message.now g.form g.required g.mode
    (simp (le-ltb _ _ c.if-message-lt2.false) (rw (c.read_u16.ensures.0, to_end g.message.now 2) at c.read_type.ensures))
