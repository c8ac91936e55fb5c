-- `set_state` meets its contract. Assumes nothing.
use Prim.Native.Nat.{◌-◌}
use mathlib.Core.Path.{◌≡◌, sym, ◌∙◌}
use mathlib.Core.Bool.{false}
use native.Mathlib.Omega.{arith}
use lib.ListN.{length}
use borrow.Author.Tests.{lt-ltb, le-ltb, eq-eqb}
use Rattle.wire.specs.Fields.{past}
use Rattle.wire.proofs.Fields.{part_length}
use Rattle.wire.proofs.Writers.{writes_as}
use Rattle.control.specs.declared.Command.TheVariants.{SetState}
use Rattle.control_write.specs.Image.{payload_image}
use Rattle.control_write.proofs.Refusing.{long_only}
use borrow.Author.Rules.{rules}
use Rattle.control_write.proofs.payloads.set_state.Goals as goal

pub returns : goal.returns
returns c =
    let g = c.args in
    let s = g.bytes.now in
    let q = payload_image (SetState g.f) s in
    let e : past s g.f.value ≡ false = sym c.runs_past.ensures ∙ c.if-runs_past.false in
    let l = part_length s g.f.value e in
    writes_as
    (long_only g.limit (SetState g.f) g.bytes.now (simp e) (simp (lt-ltb g.f.kind 65536 (search rules), lt-ltb g.f.id 65536 (search rules), lt-ltb g.f.mode 256 (search rules)))
    (simp (le-ltb (length q) 6 (omega arith)))
    (simp (le-ltb _ _ c.if-f-gt1.false))
    (simp (eq-eqb g.f.value.len (length q - 6) (omega arith))))
    (rw (c.state_fields-fields.ensures, c.part_of.ensures) at c.packet.ensures)
