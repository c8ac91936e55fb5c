-- `envelope::drafts::draft_packet` meets its contract. Assumes nothing.
use mathlib.Core.Path.{refl, sym, ◌∙◌}
use mathlib.Core.List.{◌++◌}
use Rattle.access.specs.Level.{level_number}
use Rattle.session.specs.Keys.{key_for}
use Rattle.envelope.proofs.Drafted.{draft_misfit, drafted_as}
use Rattle.envelope.proofs.drafts.draft_packet.Goals as goal

pub returns-then-outside : goal.returns-then-outside
returns-then-outside c =
    let a = c.args in
    draft_misfit (key_for a.keys a.mode a.level) (level_number a.level) (a.validation ++ a.packet.now) a.room (sym c.outside.ensures ∙ c.if-outside.true)

pub returns : goal.returns
returns c =
    let a = c.args in
    drafted_as a.room (sym c.outside.ensures ∙ c.if-outside.false) c.serving-key.ensures c.from-number.ensures refl c.draft.ensures
