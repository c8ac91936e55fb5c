-- `envelope::sealing::seal` meets its contract. Assumes nothing.
use lib.ListN.{length}
use Rattle.std.proofs.lemmas.Result.{err_from_is_err_and}
use Rattle.access.specs.declared.Level.TheVariants.{Admin}
use Rattle.session.specs.Keys.{key_for}
use Rattle.envelope.specs.Blocks.{outside}
use Rattle.envelope.specs.Sealed.{unpadded, plain_text, sealed_image}
use Rattle.envelope.proofs.Drafted.{draft_whole, draft_fits, refused_seals, draft_seals, message_short}
use borrow.Author.Rules.{rules}
use Rattle.envelope.proofs.sealing.seal.Goals as goal

pub returns-in_err-draft : goal.returns-in_err-draft
unfolding sealed_image plain_text
returns-in_err-draft g c =
    let a = c.args in
    let m = a.message.now in
    let p = err_from_is_err_and c.from_residual.result c.from_residual.ensures.1 in
    rw (p.1, p.2)
    (refused_seals (key_for a.keys a.mode Admin) (outside 2 490 (length m)) 0 (unpadded m) a.packet_nonce a.session_nonce a.out.now (search rules) c.in_err-draft.ensures)

pub envelop-requires : goal.envelop-requires
envelop-requires g c =
    let a = c.args in
    let m = a.message.now in (
      draft_whole (key_for a.keys a.mode Admin) (outside 2 490 (length m)) 0 (unpadded m) (length a.out.now) (message_short m) c.in_ok-draft.ensures,
      draft_fits (key_for a.keys a.mode Admin) (outside 2 490 (length m)) 0 (unpadded m) (length a.out.now) c.in_ok-draft.ensures,
    )

pub returns : goal.returns
unfolding sealed_image plain_text
returns g c =
    let a = c.args in
    let m = a.message.now in
    draft_seals (key_for a.keys a.mode Admin) (outside 2 490 (length m)) 0 (unpadded m) a.packet_nonce a.session_nonce a.out.now (search rules) (message_short m)
    c.in_ok-draft.ensures c.envelop.ensures.0 c.envelop.ensures.1
