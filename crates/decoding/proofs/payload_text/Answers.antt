-- `payload_text` meets its contract. Assumes nothing.
use mathlib.Core.Path.{sym, ap, ◌∙◌}
use borrow.Author.Tests.{le-leb, lt-leb}
use Rattle.text.proofs.Puts.{puts_then, puts_same}
use Rattle.text.specs.Digits.{hex}
use Rattle.decoding.specs.Decoding.{payload_text}
use Rattle.decoding.proofs.payload_text.Goals as goal

pub returns-then-payload-le32 : goal.returns-then-payload-le32
unfolding payload_text
returns-then-payload-le32 c =
    simp (sym c.is_empty.ensures ∙ c.if-is_empty.false, le-leb _ _ c.if-payload-le32.true) (puts_then c.put-behind.ensures c.hex.ensures)

pub returns : goal.returns
unfolding payload_text
returns c =
    simp (sym c.is_empty.ensures ∙ c.if-is_empty.false, lt-leb _ _ c.if-payload-le32.false)
    (puts_then c.put-behind.ensures (puts_then (puts_same c.hex-cut.ensures (ap hex c.split_at.ensures.front)) c.put.ensures))
