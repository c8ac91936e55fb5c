-- `characteristic::open_admitted` meets its contract. Assumes nothing.
use mathlib.Core.Path.{refl, ap, ◌∙◌}
use lib.ListN.{get_or}
use Rattle.envelope.specs.Blocks.{blocks_in, nonce_number}
use Rattle.bridge.specs.Characteristic.{packet_text}
use Rattle.bridge.specs.Opening.{command_text_opened}
use Rattle.bridge.proofs.Judging.{blocks_part}
use Rattle.bridge.proofs.Contents.{opens_packet}
use Rattle.bridge.proofs.Commands.{long, answered_after}
use Rattle.bridge.proofs.characteristic.open_admitted.Goals as goal

pub returns : goal.returns
returns g c =
    let a = c.args in
    let k = a.link in
    let p = a.packet.now in
    let w = a.work.now in
    let e = c.requires.entered in
    let d = c.decipher.ensures in
    let x = answered_after k p w e
    (c.settle.ensures.0
    ∙ ap (command_text_opened k (get_or p 3 0) (nonce_number p)) (blocks_part (blocks_in p) (packet_text k p) w (long k p w e) d refl))
    d refl c.settle.ensures.1 in
    opens_packet k p w x.0 x.1
