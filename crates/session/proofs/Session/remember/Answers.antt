-- `session::Session::remember` meets its contract. Assumes nothing.
use Rattle.session.proofs.Kept.{session_with}
use Rattle.session.proofs.Session.remember.Goals as goal

pub returns : goal.returns
returns c = session_with c.args.self c.args.number c.is_there.ensures c.memory_with.ensures
