-- `event_numbers` meets its contract. Assumes nothing.
use Rattle.text.proofs.Puts.{puts_then}
use Rattle.listing.proofs.event_numbers.Goals as goal

pub returns-in-Some-Frame : goal.returns-in-Some-Frame
returns-in-Some-Frame c =
    let e = c.in-Some-Frame.is in
    rw (e, rw e at c.in-Some-Frame.field-0-is) (puts_then c.put-behind.ensures c.decimals.ensures)

pub returns-in-Some-Refused : goal.returns-in-Some-Refused
returns-in-Some-Refused c =
    let e = c.in-Some-Refused.is in
    rw (e, rw e at c.in-Some-Refused.field-0-is) (rw c.number.ensures at c.refused_numbers.ensures)
