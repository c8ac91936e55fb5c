-- `characteristic::decipher` meets its contract. Assumes nothing.
use Rattle.envelope.specs.Blocks.{blocks_in}
use Rattle.bridge.specs.Characteristic.{packet_text}
use Rattle.bridge.proofs.Judging.{blocks_stored}
use Rattle.bridge.proofs.Commands.{whole, long}
use Rattle.bridge.proofs.characteristic.decipher.Goals as goal

pub returns : goal.returns
unfolding packet_text
returns g c =
    let a = c.args in
    let p = a.packet.now in
    blocks_stored (blocks_in p) (packet_text a.link p) a.work.now (long a.link p a.work.now c.requires.entered)
    (rw c.requires.held at c.decipher.ensures)
    (whole a.link p a.work.now c.requires.entered).1
