-- `read_result` meets its contract. Assumes nothing.
use borrow.Author.Tests.{eq-eqb}
use Rattle.wire.proofs.Fields.{to_end}
use Rattle.result.proofs.Meaning.{reads_result}
use Rattle.result.proofs.read_result.Goals as goal

pub returns : goal.returns
returns c =
    let p = c.args.packet.now in
    reads_result p
    (simp (eq-eqb _ _ (rw c.read_u16.ensures.0 at c.if-packet-read_u16.false), eq-eqb _ _ c.if-packet-ne5.false)
    (rw (c.read_u16-2.ensures.0, c.read_u16-3.ensures.0, to_end p 7) at c.read_payload.ensures))
