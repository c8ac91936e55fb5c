-- `bytes_at` meets its contract. Assumes nothing.
use Rattle.std.proofs.Common.{arith, refl, ap, Bor, List, ℕ, ◌∙◌, get_or}
use lib.ListN.{length-set}
use Rattle.std.proofs.lemmas.List.{get_or-drop}
use Rattle.wire.proofs.Lists.{rest_or, kept_more}
use Rattle.wire.proofs.bytes_at.Goals as goal

pub loop-k-preserved : goal.loop-k-preserved
loop-k-preserved g c = (
  simp length-set c.loop-k.invariant.0,
  kept_more c.loop-k.byte-items c.unwrap_or-rest.result.now c.loop-k.k _ (omega arith) c.loop-k.invariant.1 c.byte_at.ensures.0,
)

pub returns : goal.returns
returns g c = λ k h.
    let rest = ap (λ (b : Bor (List ℕ)). b.now) c.unwrap_or-rest.ensures ∙ rest_or c.args.s.now c.args.at c.get.result _ refl c.get.ensures.lookup in
    c.loop-k.invariant.1 k (omega arith) ∙ ap (λ (l : List ℕ). get_or l k 0) rest ∙ get_or-drop c.args.at c.args.s.now k 0
