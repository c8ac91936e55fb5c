-- `crc_from` meets its contract. Assumes nothing.
use Rattle.crc.proofs.Loop.{next_two, last, end}
use Rattle.crc.proofs.crc_from.Goals as goal

pub loop-rest-preserved : goal.loop-rest-preserved
loop-rest-preserved c = next_two _ _ _ _ c.in-len2-up.len_at_least c.after_two-c.ensures c.loop-rest.invariant

pub returns-in-len1 : goal.returns-in-len1
returns-in-len1 c = last _ _ _ _ c.in-len1.len_at_least c.in-len1.len_below c.after_one.ensures c.loop-rest.invariant

pub returns-in_default-rest : goal.returns-in_default-rest
returns-in_default-rest c = end _ _ _ c.in_default-rest.len_below c.loop-rest.invariant
