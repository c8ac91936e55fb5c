-- `sized` meets its contract. Assumes nothing.
use native.Mathlib.Omega.{arith}
use lib.Dec.{leb}
use borrow.Author.Tests.{lt-leb}
use Rattle.wire.proofs.Choice.{and_false}
use Rattle.capture.proofs.Reaching.{takes_holds}
use Rattle.capture.proofs.NextEvents.{next_size, next_cut, next_checked}
use Rattle.capture.proofs.ahead.sized.Goals as goal
use Rattle.capture.proofs.ahead.sized.Goals.{then-size-lt5-via-then-size-lt5, then-size-lt5-via-else-size-lt5+then-size-gt512}

pub returns-then-size-lt5 : goal.returns-then-size-lt5
returns-then-size-lt5 c =
    let a = c.args in
    next_size a.s.now a.offset a.at a.size c.refused.result a.store.now c.requires.0 c.requires.1
    (elim c.then-size-lt5.branch [
      | then-size-lt5-via-then-size-lt5 w ↦ simp (lt-leb _ _ w.if-size-lt5.true)
      | then-size-lt5-via-else-size-lt5+then-size-gt512 w ↦ simp (lt-leb _ _ w.if-size-gt512.true) (and_false (leb 5 a.size))
    ])
    c.refused.ensures

pub broken-requires : goal.broken-requires
broken-requires c =
    let t = c.unescape-t.ensures in
    let h = takes_holds c.requires.1 t in
    (omega (arith, h.forward), h.within, t.stuck c.if-t-size.true)

pub returns-then-t-size : goal.returns-then-t-size
returns-then-t-size c =
    let a = c.args in
    next_cut a.s.now a.offset a.at a.size c.broken.result _ c.requires.0 c.requires.1 (omega arith) (omega arith) c.unescape-t.ensures
    c.if-t-size.true c.broken.ensures

pub checked-requires : goal.checked-requires
checked-requires c =
    let h = takes_holds c.requires.1 c.unescape-t.ensures in
    (omega arith, omega arith, omega (arith, h.forward))

pub returns : goal.returns
returns c =
    let a = c.args in
    next_checked a.s.now a.offset a.at a.size c.checked.result _ c.requires.0 c.requires.1 (omega arith) (omega arith) c.unescape-t.ensures
    c.if-t-size.false c.checked.ensures
