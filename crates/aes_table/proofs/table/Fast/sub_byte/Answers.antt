-- `aes_table::table::Fast::sub_byte` meets its contract. Assumes nothing.
use Rattle.std.proofs.Common.{ap, List, ℕ, rules}
use lib.ListN.{get_or}
use Rattle.aes_table.proofs.Entries.{entry_is}
use Rattle.aes_table.proofs.table.Fast.sub_byte.Goals as goal

pub returns : goal.returns
returns c = let t = c.args.self.now in ap (λ (l : List ℕ). get_or l 1 0) (entry_is t.entries c.args.b t.is_table (search rules))
