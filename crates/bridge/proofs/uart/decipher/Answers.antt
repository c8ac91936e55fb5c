-- `uart::decipher` meets its contract. Assumes nothing.
use Rattle.envelope.specs.Blocks.{blocks_in}
use Rattle.bridge.specs.Opener.{uart_text}
use Rattle.bridge.proofs.Judging.{blocks_stored}
use Rattle.bridge.proofs.Opening.{whole, long}
use Rattle.bridge.proofs.uart.decipher.Goals as goal

pub returns : goal.returns
unfolding uart_text
returns g c =
    let a = c.args in
    let p = a.payload.now in
    blocks_stored (blocks_in p) (uart_text a.context p) a.work.now (long a.context p a.work.now c.requires.entered)
    (rw c.requires.held at c.decipher.ensures) (whole a.context p a.work.now c.requires.entered).1
