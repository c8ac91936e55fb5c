-- `session::NonceMemory::holds` meets its contract. Assumes nothing.
use Rattle.session.proofs.Remembered.{holds_any}
use Rattle.session.proofs.NonceMemory.holds.Goals as goal

pub returns : goal.returns
returns c = holds_any c.args.self c.limited-memory.result c.args.number c.limited-memory.ensures.0 c.contains.ensures.value
