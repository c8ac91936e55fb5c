-- `copy` meets its contract: what is put at a place is a run of stores. Assumes nothing.
use Rattle.wire.proofs.Lists.{put_sets}
use Rattle.wire.proofs.copy.Goals as goal

pub returns : goal.returns
returns c =
    let a = c.args in
    rw c.copy_from_slice.ensures.after (put_sets a.at a.bytes.now a.out.now c.requires)
