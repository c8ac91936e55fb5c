-- `status` meets its contract. Assumes nothing.
use Rattle.message.specs.declared.Message.TheVariants.{Status}
use Rattle.message_write.specs.Image.{body_for, data_of}
use mathlib.Core.Path.{◌≡◌, sym, ◌∙◌}
use mathlib.Core.Bool.{false}
use native.Mathlib.Omega.{arith}
use lib.ListN.{length}
use borrow.Author.Tests.{lt-ltb, le-ltb, eq-eqb}
use Rattle.wire.specs.Fields.{past}
use Rattle.wire.proofs.Fields.{part_length}
use Rattle.wire.proofs.Writers.{writes_as}
use borrow.Author.Rules.{rules}
use Rattle.message_write.proofs.bodies.status.Goals as goal

pub returns : goal.returns
returns c =
    let g = c.args in
    let e : past g.bytes.now g.f.«data» ≡ false = sym c.runs_past.ensures ∙ c.if-runs_past.false in
    let l = part_length g.bytes.now g.f.«data» e in
    let q = data_of (body_for (Status g.f)) (Status g.f) g.bytes.now in
    writes_as
    (simp (e, lt-ltb g.f.kind 256 (search rules), lt-ltb g.f.flags 256 (search rules), eq-eqb (length q) 11 (omega arith), le-ltb _ _ c.if-f-gt1.false, le-ltb _ _ c.if-f-gt15.false, eq-eqb _ _ c.if-f-ne9.false))
    (rw c.part_of.ensures at c.typed.ensures)
