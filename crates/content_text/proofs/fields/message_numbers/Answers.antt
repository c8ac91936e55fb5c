-- `fields::message_numbers` meets its contract. Assumes nothing.
use Rattle.text.proofs.Puts.{puts_none}
use Rattle.text.specs.Digits.{decimals}
use Rattle.content_text.proofs.fields.message_numbers.Goals as goal

pub returns-in-GetMac : goal.returns-in-GetMac
unfolding decimals
returns-in-GetMac c = rw c.in-GetMac.is (puts_none _ _)
