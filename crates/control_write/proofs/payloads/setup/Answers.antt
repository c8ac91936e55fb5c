-- `setup` meets its contract. Assumes nothing.
use Prim.Native.Nat.{◌+◌, ◌-◌}
use mathlib.Core.Path.{◌≡◌, refl, sym, ◌∙◌}
use mathlib.Core.Bool.{false}
use native.Mathlib.Omega.{arith}
use lib.ListN.{length, length-append}
use borrow.Author.Tests.{lt-ltb, le-ltb, eq-eqb}
use Rattle.wire.specs.Fields.{past}
use Rattle.wire.specs.Parts.{part_of}
use Rattle.wire.proofs.Fields.{part_length}
use Rattle.wire.proofs.Writers.{writes_as}
use Rattle.control.specs.declared.Command.TheVariants.{Setup}
use Rattle.control_write.specs.Image.{payload_image}
use Rattle.control_write.proofs.Refusing.{long_only}
use borrow.Author.Rules.{rules}
use Rattle.control_write.proofs.payloads.setup.Goals as goal

pub returns : goal.returns
returns c =
    let g = c.args in
    let s = g.bytes.now in
    let q = payload_image (Setup g.f) s in
    let e : past s g.f.keys ≡ false = sym c.runs_past.ensures ∙ c.if-runs_past.false in
    let o : past s g.f.rest ≡ false = sym c.runs_past-2.ensures ∙ c.if-runs_past-2.false in
    let k = part_length s g.f.keys e in
    let r = part_length s g.f.rest o in
    let a = length-append (part_of s g.f.keys) (part_of s g.f.rest) in
    let n : length q ≡ 98 + g.f.rest.len = omega arith in
    writes_as
    (long_only g.limit (Setup g.f) g.bytes.now (simp (e, o))
    (simp (lt-ltb g.f.stone 256 (search rules), lt-ltb g.f.sphere 256 (search rules)))
    (simp (le-ltb (length q) 98 (omega arith)))
    refl
    (simp (eq-eqb g.f.keys.len 96 c.if-f-ne96.false, eq-eqb g.f.rest.len (length q - 98) (omega arith))))
    (rw (c.part_of.ensures, c.part_of-2.ensures) at c.packet.ensures)
