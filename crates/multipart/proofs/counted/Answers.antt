-- `counted` meets its contract. Assumes nothing.
use mathlib.Core.Path.{sym}
use Prim.Native.Nat.{◌+◌}
use native.Mathlib.Omega.{arith}
use lib.ListN.{length}
use borrow.Author.Tests.{lt-ltb, le-ltb}
use Rattle.multipart.specs.Assembler.{counted}
use Rattle.multipart.proofs.counted.Goals as goal

pub returns-then-not-in_turn : goal.returns-then-not-in_turn
unfolding counted
returns-then-not-in_turn c = simp (sym c.in_turn.ensures, c.if-not-in_turn.true) c.out_of_turn.ensures

pub returns-then-was-bytes : goal.returns-then-was-bytes
unfolding counted
returns-then-was-bytes c =
    let g = c.args in
    simp (sym c.in_turn.ensures, c.if-not-in_turn.false, lt-ltb 500 (g.was.bytes + length g.bytes.now) (omega arith)) (c.over_long.ensures _)

pub returns : goal.returns
unfolding counted
returns c =
    let g = c.args in
    simp (sym c.in_turn.ensures, c.if-not-in_turn.false, le-ltb 500 (g.was.bytes + length g.bytes.now) (omega arith)) c.kept.ensures
