-- `write_control` meets its contract. Assumes nothing.
use Rattle.wire.proofs.Writers.{writes_as}
use Rattle.control_write.proofs.Refusing.{within_all}
use Rattle.control_write.proofs.write_control.Goals as goal

pub returns : goal.returns
returns c = let g = c.args in writes_as (within_all g.c g.bytes.now) c.write_behind.ensures
