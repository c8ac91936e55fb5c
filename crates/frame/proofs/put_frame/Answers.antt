-- `put_frame` meets its contract: each part is put where the last ends. Assumes nothing.
use Rattle.frame.proofs.Escape.{sent_stored}
use Rattle.frame.proofs.put_frame.Goals as goal

pub returns : goal.returns
returns c =
    let a = c.args in
    sent_stored a.head.now a.payload.now a.tail.now a.out.now _ _ _ _ _ c.put-p.ensures.0 c.put-p.ensures.1 c.put-q.ensures.0 c.put-q.ensures.1 c.put.ensures.1
