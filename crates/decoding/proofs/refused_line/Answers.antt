-- `refused_line` meets its contract. Assumes nothing.
use Rattle.text.proofs.Puts.{puts_then}
use Rattle.decoding.proofs.refused_line.Goals as goal

pub returns : goal.returns
returns c =
    puts_then (puts_then (puts_then (puts_then c.decimal-a.ensures c.put-b.ensures) c.refused_words-c.ensures) c.reason-d.ensures) c.put.ensures
