-- `replies::characteristic_reply` meets its contract. Assumes nothing.
use mathlib.Core.Path.{refl}
use borrow.Author.Tests.{lt-ltb, le-ltb, eq-eqb, ne_eqb}
use Rattle.bridge.specs.Reply.{characteristic_entry_of}
use Rattle.bridge.proofs.replies.characteristic_reply.Goals.{then-number-lt18-via-then-number-lt18, then-number-lt18-via-else-number-lt18+then-number-eq25}
use Rattle.bridge.proofs.replies.characteristic_reply.Goals as goal

pub returns-then-number-lt18 : goal.returns-then-number-lt18
unfolding characteristic_entry_of
returns-then-number-lt18 c =
    elim c.then-number-lt18.branch [
      | then-number-lt18-via-then-number-lt18 w ↦ simp (lt-ltb _ _ w.if-number-lt18.true) (refl, refl)
      | then-number-lt18-via-else-number-lt18+then-number-eq25 w ↦ simp (le-ltb _ _ w.if-number-lt18.false, eq-eqb _ _ w.if-number-eq25.true) (refl, refl)
    ]

pub returns : goal.returns
unfolding characteristic_entry_of
returns c = simp (le-ltb _ _ c.if-number-lt18.false, ne_eqb _ _ c.if-number-eq25.false) c.uart_reply.ensures
