-- `fields::command_parts` meets its contract. Assumes nothing.
use Rattle.content_text.proofs.Content.{two_parts}
use Rattle.content_text.proofs.fields.command_parts.Goals as goal

pub returns-in-Setup : goal.returns-in-Setup
returns-in-Setup c = rw c.in-Setup.is (two_parts _ _ c.part-behind.ensures c.part.ensures)
