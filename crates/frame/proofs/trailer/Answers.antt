-- `trailer` meets its contract. Assumes nothing.
use mathlib.Core.Path.{ap, ◌∙◌}
use Prim.Native.Nat.{ℕ}
use Rattle.wire.specs.Numbers.{le}
use Rattle.crc.specs.Crc.{crc_from}
use Rattle.frame.proofs.trailer.Goals as goal

pub returns : goal.returns
unfolding crc_from
returns c =
    let a = c.args in
    c.u16_bytes.ensures ∙ ap (le 2) (c.crc_from.ensures ∙ ap (λ (x : ℕ). crc_from x a.payload.now) c.crc_from-sum.ensures)
