-- `hex` meets its contract. Assumes nothing.
use Rattle.text.specs.Digits.{hex}
use Rattle.text.proofs.Puts.{Leaves}
use lib.ListN.{drop}
use Rattle.text.proofs.hex.Given as goal

abbrev pub invariant-loop-b : goal.invariant-loop-b
invariant-loop-b l = Leaves (hex l.s) l.at l.initial.out (hex (drop l.b-index l.s)) l.behind l.out
