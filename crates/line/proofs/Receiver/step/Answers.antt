-- `Receiver::step` meets its contract. Assumes nothing.
use Rattle.line.proofs.Run.{received}
use Rattle.line.proofs.Moves.{stepped}
use Rattle.line.proofs.Receiver.step.Goals as goal

pub returns : goal.returns
returns c = received _ _ _ (stepped _ _ _ _ _ _ c.step-action.ensures c.acted-event.ensures)
