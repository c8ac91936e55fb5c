-- `decode` meets its contract. Assumes nothing.
use Rattle.capture.proofs.Judging.{decodes_all}
use Rattle.capture.proofs.decode.Goals as goal

pub returns : goal.returns
returns c =
    let a = c.args in
    decodes_all a.capture.now a.list.now a.buffer.now c.if-capture-gt65536.false c.short_of_room.ensures c.if-short_of_room.false
    c.write.ensures.0 c.write.ensures.1
