-- `event_line` meets its contract. Assumes nothing.
use mathlib.Core.Path.{sym}
use Rattle.text.proofs.Puts.{puts_then, puts_same}
use Rattle.listing.proofs.Lines.{line_words}
use Rattle.listing.proofs.event_line.Goals as goal

pub returns-in-Some : goal.returns-in-Some
returns-in-Some c =
    let e = c.in-Some.is in
    rw e (puts_same (puts_then (rw e at c.event_words-behind.ensures) c.put.ensures) (sym (line_words _)))
