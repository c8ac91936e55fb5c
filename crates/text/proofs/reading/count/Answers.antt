-- `count` meets its contract. Assumes nothing.
use Rattle.std.proofs.Common.{arith, ◌≡◌, ◌∙◌, ℕ, eqb}
use Rattle.std.proofs.lemmas.Grind.{common_steps}
use Rattle.std.specs.Prelude.{count_by}
use Rattle.text.proofs.Fields.{count_is}
use Rattle.text.proofs.reading.count.Goals as goal

pub returns : goal.returns
returns c =
    let e : c.count.result ≡ count_by (λ (b : ℕ). eqb b c.args.sep) c.args.s.now = grind (arith, common_steps) in
    e ∙ count_is c.args.sep c.args.s.now
