-- `envelope::drafts::draft_message` meets its contract. Assumes nothing.
use mathlib.Core.Path.{refl, sym, ap, ◌∙◌}
use mathlib.Core.List.{List, ◌++◌}
use Prim.Native.Nat.{ℕ}
use Rattle.access.specs.declared.Level.TheVariants.{Admin}
use Rattle.session.specs.Keys.{key_for}
use Rattle.envelope.specs.Sealed.{unpadded}
use Rattle.envelope.proofs.Drafted.{draft_misfit, drafted_as}
use Rattle.envelope.proofs.drafts.draft_message.Goals as goal

pub returns-then-outside : goal.returns-then-outside
returns-then-outside c =
    let a = c.args in
    draft_misfit (key_for a.keys a.mode Admin) 0 (unpadded a.message.now) a.room (sym c.outside.ensures ∙ c.if-outside.true)

pub returns : goal.returns
returns c =
    let a = c.args in
    drafted_as a.room (sym c.outside.ensures ∙ c.if-outside.false) c.serving-key.ensures refl (ap (λ (h : List ℕ). h ++ a.message.now) c.header-head.ensures) c.draft.ensures
