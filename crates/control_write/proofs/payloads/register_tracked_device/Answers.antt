-- `register_tracked_device` meets its contract. Assumes nothing.
use mathlib.Core.Path.{refl, ◌∙◌}
use native.Mathlib.Omega.{arith}
use mir.Syntax.{w8}
use mir.Val.{SFits}
use borrow.Author.Tests.{lt-ltb}
use Rattle.wire.specs.Signed.{unsigned}
use Rattle.wire.proofs.Signed.{byte_fits, byte_kept}
use Rattle.wire.proofs.Writers.{writes_as}
use Rattle.control.specs.declared.Command.TheVariants.{RegisterTrackedDevice}
use Rattle.control_write.proofs.Refusing.{long_only, token_bytes}
use borrow.Author.Rules.{rules}
use Rattle.control_write.proofs.payloads.register_tracked_device.Goals as goal

pub returns : goal.returns
returns c =
    let g = c.args in
    let token = c.u24_bytes-t.ensures ∙ token_bytes g.f.token (omega arith) in
    let fits : SFits w8 g.f.offset = search rules in
    let offset = c.unsigned_of-o.ensures ∙ byte_kept g.f.offset fits in
    writes_as
    (long_only g.limit (RegisterTrackedDevice g.f) g.bytes.now refl
    (simp (
      lt-ltb g.f.device 65536 (search rules),
      lt-ltb g.f.location 256 (search rules),
      lt-ltb g.f.profile 256 (search rules),
      lt-ltb (unsigned g.f.offset) 256 (byte_fits g.f.offset fits),
      lt-ltb g.f.flags 256 (search rules),
      lt-ltb g.f.token 16777216 (omega arith),
      lt-ltb g.f.ttl.0 65536 (omega arith),
    ))
    refl refl refl)
    (rw (c.u16_bytes-d.ensures, offset, token, c.u16_bytes-m.ensures) at c.packet.ensures)
