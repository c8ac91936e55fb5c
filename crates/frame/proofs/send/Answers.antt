-- `send` meets its contract. Assumes nothing.
use native.Mathlib.Omega.{arith}
use Rattle.wire.proofs.Writing.{stores_made}
use Rattle.frame.specs.Writer.{sent}
use Rattle.frame.proofs.send.Goals as goal

pub returns : goal.returns
returns c =
    let a = c.args in
    stores_made 0 (sent a.head.now a.payload.now a.tail.now) a.out.now (omega (arith, c.sent_len-need.ensures)) c.put_frame.ensures c.sent_len-need.ensures
