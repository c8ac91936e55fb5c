-- `put_place` meets its contract. Assumes nothing.
use Rattle.text.proofs.Puts.{puts_then}
use Rattle.session_text.proofs.put_place.Goals as goal

pub returns : goal.returns
returns c =
    puts_then c.put-behind.ensures (rw c.u32_bytes-bytes.ensures at c.hex.ensures)
