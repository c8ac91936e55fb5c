-- `envelope::sealing::envelop` meets its contract. Assumes nothing.
use mathlib.Core.Path.{◌≡◌, refl}
use native.Mathlib.Omega.{arith}
use lib.ListN.{length, take}
use lib.Seq.{length-take-le}
use Rattle.envelope.proofs.Sealers.{image_stored}
use borrow.Author.Rules.{rules}
use Rattle.envelope.proofs.sealing.envelop.Goals as goal

pub returns : goal.returns
returns g c =
    let a = c.args in
    let d = a.draft.now in
    let whole : length d.text ≡ 496 = search rules in
    let l = length-take-le d.len d.text (omega arith) in (
      refl,
      image_stored d.key a.packet_nonce a.session_nonce d.id (take d.len d.text) a.out.now (search rules) (omega arith) c.write_front.ensures c.write_front.auto.out c.apply_ctr.ensures,
    )
