-- `second_above` meets its contract: what is left of the pairs decides. Assumes nothing.
use Rattle.std.proofs.Common.{◌≡◌}
use Rattle.std.specs.Slice.Iter.{chunks_exact_rest, chunks_exact_size}
use Rattle.wire.specs.Fields.{second_above}
use Rattle.wire.proofs.layouts.second_above.Given as goal

abbrev pub invariant-loop-pair : goal.invariant-loop-pair
invariant-loop-pair l =
    (goal.iterator-loop-pair).can_next l.pair-iterator × (goal.iterator-loop-pair).is_finite l.pair-iterator
    × (chunks_exact_size l.pair-iterator ≡ 2) × (second_above l.limit l.s ≡ second_above l.limit (chunks_exact_rest l.pair-iterator))
