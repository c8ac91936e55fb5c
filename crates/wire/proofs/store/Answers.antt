-- `store` meets its contract. Assumes nothing.
use mathlib.Core.Path.{refl}
use native.Mathlib.Omega.{arith}
use Rattle.wire.proofs.Writing.{stores_made}
use Rattle.wire.proofs.store.Goals as goal

pub returns : goal.returns
returns c =
    let a = c.args in
    stores_made a.at a.bytes.now a.out.now (omega arith) c.copy.ensures refl
