-- `part_of` meets its contract. Assumes nothing.
use Rattle.std.proofs.Common.{refl, ap, Bor, List, ℕ, ◌∙◌}
use Rattle.wire.proofs.Lists.{rest_or, part_or}
use Rattle.wire.proofs.part_of.Goals as goal

pub returns : goal.returns
returns c =
    let p = c.args.p in
    let rest = ap (λ (b : Bor (List ℕ)). b.now) c.unwrap_or-rest.ensures ∙ rest_or c.args.s.now p.start c.get.result _ refl c.get.ensures.lookup in
    ap (λ (b : Bor (List ℕ)). b.now) c.unwrap_or.ensures ∙ part_or c.args.s.now p.start p.len c.get-2.result _ refl (rw rest at c.get-2.ensures.lookup)
