-- `multi_switch` meets its contract. Assumes nothing.
use Prim.Native.Nat.{◌+◌, ◌-◌, ◌*◌}
use mathlib.Core.Path.{◌≡◌, sym, ◌∙◌}
use mathlib.Core.Bool.{false}
use native.Mathlib.Omega.{arith}
use lib.ListN.{length}
use borrow.Author.Tests.{lt-ltb, eq-eqb, ne_eqb}
use Rattle.wire.specs.Fields.{past}
use Rattle.wire.proofs.Fields.{part_length}
use Rattle.wire.proofs.Writers.{writes_bad, writes_as}
use Rattle.control.specs.declared.Command.TheVariants.{MultiSwitch}
use Rattle.control_write.specs.Image.{payload_image}
use Rattle.control_write.proofs.Refusing.{bad_size, long_only}
use borrow.Author.Rules.{rules}
use Rattle.control_write.proofs.payloads.multi_switch.Goals as goal

pub returns-then-f-wide : goal.returns-then-f-wide
returns-then-f-wide c =
    let g = c.args in
    let s = g.bytes.now in
    let q = payload_image (MultiSwitch g.f) s in
    let l = part_length s g.f.pairs (sym c.runs_past.ensures ∙ c.if-runs_past.false) in
    let w = rw c.wide.ensures.0 at c.if-f-wide.true in
    writes_bad (bad_size g.limit (MultiSwitch g.f) g.bytes.now (simp (ne_eqb (length q) (1 + 2 * g.f.count) (omega arith))))

pub returns : goal.returns
returns c =
    let g = c.args in
    let s = g.bytes.now in
    let q = payload_image (MultiSwitch g.f) s in
    let e : past s g.f.pairs ≡ false = sym c.runs_past.ensures ∙ c.if-runs_past.false in
    let l = part_length s g.f.pairs e in
    let w = rw c.wide.ensures.0 at c.if-f-wide.false in
    writes_as
    (long_only g.limit (MultiSwitch g.f) g.bytes.now (simp e)
    (simp (lt-ltb g.f.count 256 (search rules)))
    (simp (eq-eqb (length q) (1 + 2 * g.f.count) (omega arith)))
    (simp (sym (rw c.part_of-named.ensures at c.second_above.ensures) ∙ c.if-second_above.false))
    (simp (eq-eqb g.f.pairs.len (length q - 1) (omega arith))))
    (rw c.part_of-named.ensures at c.packet.ensures)
