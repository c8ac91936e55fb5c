-- `envelope::sealing::seal_characteristic` meets its contract. Assumes nothing.
use mathlib.Core.List.{◌++◌}
use lib.ListN.{length}
use Rattle.std.proofs.lemmas.Result.{err_from_is_err_and}
use Rattle.access.specs.Level.{level_number}
use Rattle.session.specs.Keys.{key_for}
use Rattle.envelope.specs.Blocks.{outside}
use Rattle.envelope.specs.Characteristic.{characteristic_text, characteristic_image}
use Rattle.envelope.proofs.Drafted.{draft_whole, draft_fits, refused_seals, draft_seals, packet_short}
use borrow.Author.Rules.{rules}
use Rattle.envelope.proofs.sealing.seal_characteristic.Goals as goal

pub returns-in_err-draft : goal.returns-in_err-draft
unfolding characteristic_image characteristic_text
returns-in_err-draft g c =
    let a = c.args in
    let s = a.validation ++ a.packet.now in
    let p = err_from_is_err_and c.from_residual.result c.from_residual.ensures.1 in
    rw (p.1, p.2)
    (refused_seals (key_for a.keys a.mode a.level) (outside 5 492 (length a.packet.now)) (level_number a.level) s a.packet_nonce a.session_nonce a.out.now (search rules) c.in_err-draft.ensures)

pub envelop-requires : goal.envelop-requires
envelop-requires g c =
    let a = c.args in
    let p = a.packet.now in (
      draft_whole (key_for a.keys a.mode a.level) (outside 5 492 (length p)) (level_number a.level) (a.validation ++ p) (length a.out.now)
          (packet_short a.validation p (search rules)) c.in_ok-draft.ensures,
      draft_fits (key_for a.keys a.mode a.level) (outside 5 492 (length p)) (level_number a.level) (a.validation ++ p) (length a.out.now) c.in_ok-draft.ensures,
    )

pub returns : goal.returns
unfolding characteristic_image characteristic_text
returns g c =
    let a = c.args in
    let p = a.packet.now in
    draft_seals (key_for a.keys a.mode a.level) (outside 5 492 (length p)) (level_number a.level) (a.validation ++ p) a.packet_nonce a.session_nonce a.out.now (search rules)
    (packet_short a.validation p (search rules)) c.in_ok-draft.ensures c.envelop.ensures.0 c.envelop.ensures.1
