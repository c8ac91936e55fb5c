-- `envelope::opening::judge_characteristic` meets its contract. Assumes nothing.
use mathlib.Core.Path.{sym, ◌∙◌}
use Rattle.envelope.specs.Characteristic.{characteristic_rules}
use Rattle.envelope.proofs.opening.judge_characteristic.Goals as goal

pub returns-then-not-starts_with : goal.returns-then-not-starts_with
unfolding characteristic_rules
returns-then-not-starts_with c = simp (sym c.starts_with.ensures ∙ c.if-not-starts_with.true)

pub returns-then-packet_misfit : goal.returns-then-packet_misfit
unfolding characteristic_rules
returns-then-packet_misfit c = simp (sym c.starts_with.ensures ∙ c.if-not-starts_with.false, sym c.packet_misfit.ensures ∙ c.if-packet_misfit.true)

pub returns-then-not-all_zero : goal.returns-then-not-all_zero
unfolding characteristic_rules
returns-then-not-all_zero c =
    simp (sym c.starts_with.ensures ∙ c.if-not-starts_with.false, sym c.packet_misfit.ensures ∙ c.if-packet_misfit.false)
    (simp (sym c.packet_size.ensures.0, sym c.all_zero.ensures) (simp c.if-not-all_zero.true))

pub returns : goal.returns
unfolding characteristic_rules
returns c =
    simp (sym c.starts_with.ensures ∙ c.if-not-starts_with.false, sym c.packet_misfit.ensures ∙ c.if-packet_misfit.false)
    (simp (sym c.packet_size.ensures.0, sym c.all_zero.ensures) (simp c.if-not-all_zero.false))
