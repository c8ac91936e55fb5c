-- `write5` meets its contract. Assumes nothing.
use mathlib.Core.Path.{refl, ◌∙◌}
use native.Mathlib.Omega.{arith}
use lib.ListN.{length}
use Rattle.wire.proofs.Five.{five_made}
use Rattle.wire.proofs.layouts.write5.Goals as goal

pub returns : goal.returns
returns c =
    let g = c.args in
    five_made g.a.now g.b.now g.c.now g.d.now g.e.now g.out.now
    {i = length g.a.now} {j = c.saturating_add-to_c.result} {k = c.saturating_add-to_d.result} {n = c.saturating_add-to_e.result}
    (omega arith) refl (omega arith) (omega arith) (omega arith)
    (c.copy-5.ensures ∙ rw (c.copy-4.ensures, c.copy-3.ensures, c.copy-2.ensures, c.copy.ensures)) (omega arith)
