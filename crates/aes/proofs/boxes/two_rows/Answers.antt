-- `aes::boxes::two_rows` meets its contract. Assumes nothing.
use Rattle.std.proofs.Common.{rules, ◌∙◌}
use Rattle.aes.proofs.Elements.{rows_applied}
use Rattle.aes.proofs.boxes.two_rows.Goals as goal

pub returns : goal.returns
returns g c =
    let a = c.args in
    c.unpack.ensures
    ∙ rows_applied g.S.Substitution.image c.eight.ensures.bytes a.a a.b (λ i. search rules) (λ i. search rules) c.pack.ensures c.eight.ensures.each
