-- `pairs` meets its contract. Assumes nothing.
use Rattle.std.proofs.Common.{◌≡◌}
use Rattle.std.specs.Slice.Iter.{chunks_exact_rest, chunks_exact_size}
use Rattle.text.specs.Reading.{pairs}
use Rattle.text.proofs.Puts.{Leaves}
use Rattle.text.proofs.reading.pairs.Given as goal

abbrev pub invariant-loop-pair : goal.invariant-loop-pair
invariant-loop-pair l =
    (goal.iterator-loop-pair).can_next l.pair-iterator × (goal.iterator-loop-pair).is_finite l.pair-iterator
    × (chunks_exact_size l.pair-iterator ≡ 2)
    × Leaves (pairs l.s) l.at l.initial.out (pairs (chunks_exact_rest l.pair-iterator)) l.behind l.out
