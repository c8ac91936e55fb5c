-- `session::Connection::remember` meets its contract. Assumes nothing.
use Rattle.session.proofs.Kept.{connection_with}
use Rattle.session.proofs.Connection.remember.Goals as goal

pub returns : goal.returns
returns c = connection_with c.args.self c.args.number c.is_there.ensures c.memory_with.ensures
