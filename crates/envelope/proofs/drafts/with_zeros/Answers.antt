-- `envelope::drafts::with_zeros` meets its contract. Assumes nothing.
use native.Mathlib.Omega.{arith}
use Rattle.envelope.proofs.Sealers.{stored, zeros_behind}
use Rattle.envelope.proofs.drafts.with_zeros.Goals as goal

pub returns : goal.returns
returns c =
    let a = c.args in
    zeros_behind a.head.now a.body.now 496 c.requires
    (stored c.store.ensures (omega arith))
    (stored c.store-2.ensures (omega arith))
