-- `tracked_device_heartbeat` meets its contract. Assumes nothing.
use mathlib.Core.Path.{refl, ◌∙◌}
use native.Mathlib.Omega.{arith}
use borrow.Author.Tests.{lt-ltb, le-ltb}
use Rattle.wire.proofs.Writers.{writes_as}
use Rattle.control.specs.declared.Command.TheVariants.{TrackedDeviceHeartbeat}
use Rattle.control_write.proofs.Refusing.{long_only, token_bytes}
use borrow.Author.Rules.{rules}
use Rattle.control_write.proofs.payloads.tracked_device_heartbeat.Goals as goal

pub returns : goal.returns
returns c =
    let g = c.args in
    let token = c.u24_bytes-t.ensures ∙ token_bytes g.f.token (omega arith) in
    writes_as
    (long_only g.limit (TrackedDeviceHeartbeat g.f) g.bytes.now refl
    (simp (
      lt-ltb g.f.device 65536 (search rules),
      lt-ltb g.f.location 256 (search rules),
      lt-ltb g.f.token 16777216 (omega arith),
      lt-ltb g.f.ttl.0 256 (omega arith),
    ))
    refl
    (simp (le-ltb _ _ c.if-f-gt60.false))
    refl)
    (rw (c.u16_bytes-d.ensures, token) at c.packet.ensures)
