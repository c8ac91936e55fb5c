-- `field` meets its contract. Assumes nothing.
use Rattle.std.proofs.Common.{rules, refl, ap, Bor, List, ℕ, eqb, ◌∙◌}
use Rattle.std.proofs.lemmas.Iterator.Consumers.{nth_from_yields_List}
use Rattle.std.proofs.lemmas.Iterator.Splits.{YieldsList-from_slice_split}
use Rattle.text.proofs.Fields.{field_or}
use Rattle.text.proofs.reading.field.Goals as goal

pub returns : goal.returns
returns c =
    let s = c.split.ensures in
    ap (λ (b : Bor (List ℕ)). b.now) c.unwrap_or.ensures
    ∙ field_or c.args.s.now c.args.sep c.args.k c.nth.result _ refl
    (nth_from_yields_List _ _ c.args.k c.nth.ensures.ran
    (YieldsList-from_slice_split _ (λ (b : ℕ). eqb b c.args.sep) c.args.s.now s.rest s.done s.closure (λ x r q k. search rules)))
