-- `aes_table::table::Fast::with_table` meets its contract. Assumes nothing.
use Rattle.std.proofs.Common.{refl}
use Rattle.aes.specs.Field.{xtime, times, ◌•◌}
use Rattle.aes.specs.Box.{printed_box}
use Rattle.aes_table.specs.Words.{table}
use Rattle.aes_table.proofs.table.Fast.with_table.Goals as goal

pub invariant_of-result : goal.invariant_of-result
unfolding table printed_box ◌•◌ times xtime
invariant_of-result c = record { is_table = refl }
