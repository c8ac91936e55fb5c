-- `uart::open_plain` meets its contract. Assumes nothing.
use mathlib.Core.Path.{◌≡◌, sym, ap, ap₂, ◌∙◌}
use mathlib.Core.Bool.{false}
use native.Mathlib.Omega.{arith}
use lib.ListN.{length}
use borrow.Author.Tests.{lt-ltb, le-ltb}
use Rattle.message.specs.declared.Form.TheVariants.{Plain}
use Rattle.bridge.specs.Opener.{plain_rules}
use Rattle.bridge.specs.Opening.{session_by_answer, plain_answer, plain_session, opened_as, answer_by}
use Rattle.bridge.proofs.Opening.{answer_read, plain_passes, plain_session_lem}
use Rattle.bridge.proofs.uart.open_plain.Goals.{then-payload-lt2-via-then-payload-lt2, then-payload-lt2-via-else-payload-lt2+then-payload-gt507}
use Rattle.bridge.proofs.uart.open_plain.Goals as goal

pub returns-then-payload-lt2 : goal.returns-then-payload-lt2
unfolding plain_answer plain_session plain_rules
returns-then-payload-lt2 c =
    elim c.then-payload-lt2.branch [
      | then-payload-lt2-via-then-payload-lt2 w ↦ simp (lt-ltb _ _ w.if-payload-lt2.true) c.refused.ensures
      | then-payload-lt2-via-else-payload-lt2+then-payload-gt507 w ↦
          simp (le-ltb _ _ w.if-payload-lt2.false, lt-ltb _ _ w.if-payload-gt507.true) c.refused.ensures
    ]

pub returns : goal.returns
returns c =
    let a = c.args in
    let p = a.payload.now in
    let answer : c.answer_by-answer.result ≡ plain_answer a.context p =
    c.answer_by-answer.ensures ∙ ap (answer_by false 0 (length p)) c.read_message-read.ensures.answer ∙ answer_read false 0 (length p) p Plain a.context (omega arith)
    ∙ sym (plain_passes a.context p c.if-payload-lt2.false c.if-payload-gt507.false) in
    ap₂ opened_as answer (c.session_after.ensures ∙ ap (session_by_answer a.context) answer ∙ plain_session_lem a.context p)
