-- `advance` meets its contract: a feed from where it began is a feed from where it is now. Assumes nothing.
use mathlib.Core.Path.{sym, ap, ◌∙◌}
use borrow.Author.Tests.{ltb-false}
use Rattle.line.specs.Moves.{move_of}
use Rattle.line.proofs.Feeding.{feed_continues, feed_stops, feed_end, feeds}
use Rattle.line.proofs.advance.Goals as goal

pub returns-then-is_some : goal.returns-then-is_some
returns-then-is_some c =
    let there = c.in-Some.ensures.lookup.3 in
    feeds _ _ _ _
    (feed_stops _ _ _ _ _ _ _ _ there.0 (c.step-action.ensures ∙ ap (move_of c.loop-b.progress) (there.1 0)) c.acted-event.ensures
    c.loop-b.invariant (sym c.is_some.ensures ∙ c.if-is_some.true))

pub loop-b-preserved : goal.loop-b-preserved
loop-b-preserved c =
    let there = c.in-Some.ensures.lookup.3 in
    feed_continues _ _ _ _ _ _ _ _ there.0 (c.step-action.ensures ∙ ap (move_of c.loop-b.progress) (there.1 0)) c.acted-event.ensures
    c.loop-b.invariant (sym c.is_some.ensures ∙ c.if-is_some.false) c.skip-ran.ensures

pub returns : goal.returns
returns c = feeds _ _ _ _ (sym (feed_end _ _ _ (ltb-false _ _ (sym c.in_default.ensures.lookup.0))) ∙ c.loop-b.invariant)
