-- `uart::open` meets its contract. Assumes nothing.
use mathlib.Core.Path.{◌∙◌}
use borrow.Author.Rules.{rules}
use lib.ListN.{length}
use Rattle.bridge.proofs.Opening.{sealed_opened_lem, plain_opened_lem, sealed_left, plain_left, wrong_major, wrong_wrapper}
use Rattle.bridge.proofs.Contents.{opens_frame}
use Rattle.bridge.proofs.uart.open.Goals as goal

pub returns-then-major-ne1 : goal.returns-then-major-ne1
returns-then-major-ne1 g c =
    let a = c.args in
    let r = wrong_major a.context (length a.work.now) a.major a.wrapper a.payload.now a.work.now c.if-major-ne1.true in
    opens_frame a.context a.major a.wrapper a.payload.now a.work.now (c.refused.ensures ∙ r.0) r.1

pub returns-in-128 : goal.returns-in-128
returns-in-128 g c =
    let a = c.args in
    let s = c.open_sealed.ensures in
    rw (c.if-major-ne1.false, c.in-128.is)
    (opens_frame a.context 1 128 a.payload.now a.work.now (s.0 ∙ sealed_opened_lem a.context (length a.work.now) a.payload.now)
    (s.1 ∙ sealed_left a.context a.payload.now a.work.now))

pub returns-in_default : goal.returns-in_default
returns-in_default g c =
    let a = c.args in
    let r = wrong_wrapper a.context (length a.work.now) a.wrapper a.payload.now a.work.now (search rules) (search rules) in
    rw c.if-major-ne1.false (opens_frame a.context 1 a.wrapper a.payload.now a.work.now (c.refused-in_default.ensures ∙ r.0) r.1)

pub returns-in-0 : goal.returns-in-0
returns-in-0 g c =
    let a = c.args in
    rw (c.if-major-ne1.false, c.in-0.is)
    (opens_frame a.context 1 0 a.payload.now a.work.now (c.open_plain.ensures ∙ plain_opened_lem a.context (length a.work.now) a.payload.now)
    (plain_left a.context a.payload.now a.work.now))
