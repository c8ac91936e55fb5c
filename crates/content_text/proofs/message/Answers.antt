-- `message` meets its contract. Assumes nothing.
use Rattle.message.specs.Message.{message_type}
use Rattle.content_text.proofs.Content.{behind_type, behind_numbers}
use Rattle.content_text.proofs.message.Goals as goal

pub returns : goal.returns
returns c = behind_type (message_type c.args.m) _ _ (rw c.message_type.ensures at c.decimals-a.ensures) (behind_numbers _ _ c.message_offset.ensures c.message_numbers-b.ensures c.put_offset-c.ensures c.message_parts.ensures)
