-- `aes_table::table::Fast::entry` meets its contract. Assumes nothing.
use Rattle.std.proofs.Common.{rules}
use Rattle.aes_table.proofs.Entries.{entry_is}
use Rattle.aes_table.proofs.table.Fast.entry.Goals as goal

pub returns : goal.returns
returns c = let t = c.args.self.now in entry_is t.entries c.args.b t.is_table (search rules)
