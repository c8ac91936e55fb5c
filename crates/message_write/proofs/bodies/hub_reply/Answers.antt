-- `hub_reply` meets its contract. Assumes nothing.
use Rattle.message.specs.declared.Message.TheVariants.{HubReply}
use Rattle.message_write.specs.Image.{body_for, data_of}
use Prim.Native.Nat.{◌-◌}
use mathlib.Core.Path.{◌≡◌, sym, ◌∙◌}
use mathlib.Core.Bool.{false}
use native.Mathlib.Omega.{arith}
use lib.ListN.{length}
use borrow.Author.Tests.{lt-ltb, le-ltb, eq-eqb}
use Rattle.wire.specs.Fields.{past}
use Rattle.wire.proofs.Fields.{part_length}
use Rattle.wire.proofs.Writers.{writes_as}
use borrow.Author.Rules.{rules}
use Rattle.message_write.proofs.bodies.hub_reply.Goals as goal

pub returns : goal.returns
returns c =
    let g = c.args in
    let e : past g.bytes.now g.f.«data» ≡ false = sym c.runs_past.ensures ∙ c.if-runs_past.false in
    let l = part_length g.bytes.now g.f.«data» e in
    let q = data_of (body_for (HubReply g.f)) (HubReply g.f) g.bytes.now in
    writes_as
    (simp (e, lt-ltb g.f.code 65536 (search rules), le-ltb (length q) 2 (omega arith), eq-eqb g.f.«data».len (length q - 2) (omega arith)))
    (rw (c.u16_bytes-fields.ensures, c.part_of.ensures) at c.typed.ensures)
