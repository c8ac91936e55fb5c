-- `put` meets its contract. Assumes nothing.
use Rattle.text.proofs.Puts.{Leaves}
use lib.ListN.{drop}
use Rattle.text.proofs.put.Given as goal

abbrev pub invariant-loop-b : goal.invariant-loop-b
invariant-loop-b l = Leaves l.s l.at l.initial.out (drop l.b-index l.s) l.behind l.out
