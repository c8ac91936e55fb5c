-- `command` meets its contract. Assumes nothing.
use Rattle.content_text.proofs.Content.{behind_numbers}
use Rattle.content_text.proofs.command.Goals as goal

pub returns : goal.returns
returns c = behind_numbers _ _ c.command_offset.ensures c.command_numbers-a.ensures c.put_offset-b.ensures c.command_parts.ensures
