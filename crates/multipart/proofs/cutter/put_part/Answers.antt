-- `put_part` meets its contract. Assumes nothing.
use Rattle.multipart.proofs.Putting.{part_stored}
use Rattle.multipart.proofs.cutter.put_part.Goals as goal

pub returns : goal.returns
returns c =
    let a = c.args in
    part_stored a.counter a.bytes.now a.out.now a.at c.requires c.store.ensures
