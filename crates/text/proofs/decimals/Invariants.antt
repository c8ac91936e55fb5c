-- `decimals` meets its contract. Assumes nothing.
use Rattle.text.specs.Digits.{decimals}
use Rattle.text.proofs.Puts.{Leaves}
use lib.ListN.{drop}
use Rattle.text.proofs.decimals.Given as goal

abbrev pub invariant-loop-n : goal.invariant-loop-n
invariant-loop-n l = Leaves (decimals l.ns) l.at l.initial.out (decimals (drop l.n-index l.ns)) l.behind l.out
