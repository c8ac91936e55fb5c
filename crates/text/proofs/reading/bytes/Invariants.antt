-- `bytes` meets its contract. Assumes nothing.
use Rattle.std.proofs.Common.{suc, ◌-◌, length}
use Rattle.text.specs.Reading.{count, listed, fields_from}
use Rattle.text.proofs.Puts.{Leaves}
use Rattle.text.proofs.reading.bytes.Given as goal

abbrev pub invariant-loop-piece : goal.invariant-loop-piece
invariant-loop-piece l =
    (goal.iterator-loop-piece).can_next l.piece-iterator × (goal.iterator-loop-piece).is_finite l.piece-iterator
    × Leaves (listed l.s) l.at l.initial.out (fields_from (length l.yielded) (suc (count 43 l.s) - length l.yielded) l.s) l.behind l.out
