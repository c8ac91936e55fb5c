-- `checked` meets its contract. Assumes nothing.
use mathlib.Core.Path.{refl, ap, ◌∙◌}
use Prim.Native.Nat.{◌-◌}
use borrow.Author.Rules.{rules}
use Rattle.line.specs.Line.{emitted}
use Rattle.wire.specs.declared.refusals.Refusal.TheVariants.{CrcDiffers}
use Rattle.capture.specs.Looking.{refusal_at}
use Rattle.capture.specs.declared.ahead.NextEvent.{NextEvent}
use Rattle.capture.proofs.Frames.{crc_differs, crc_same}
use Rattle.capture.proofs.ahead.checked.Goals as goal

pub returns-then-crc-read_u16 : goal.returns-then-crc-read_u16
returns-then-crc-read_u16 c =
    let a = c.args in
    let s = a.store.now in
    let e : NextEvent = refusal_at CrcDiffers a.offset a.behind a.behind in
    let q = c.refused.ensures in (
      ap (λ (x : NextEvent). emitted x.event s) q
          ∙ crc_differs a.size (a.behind - a.offset) s c.requires.0 c.requires.1 (search rules) c.crc.result c.read_u16.result
          c.crc.ensures c.read_u16.ensures.0 c.if-crc-read_u16.true,
      ap (λ (x : NextEvent). x.offset) q,
      ap (λ (x : NextEvent). x.next) q,
    )

pub returns : goal.returns
returns c =
    let a = c.args in (
      crc_same a.size (a.behind - a.offset) a.store.now c.requires.0 c.requires.1 (search rules) c.crc.result c.read_u16.result
          c.crc.ensures c.read_u16.ensures.0 c.if-crc-read_u16.false,
      refl,
      refl,
    )
