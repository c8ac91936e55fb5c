-- `uart::read_sealed` meets its contract. Assumes nothing.
use mathlib.Core.Path.{◌≡◌, sym, ap, ap₂, ◌∙◌}
use mathlib.Core.Bool.{true}
use mathlib.Core.List.{List}
use Prim.Native.Nat.{ℕ, ◌+◌}
use lib.ListN.{length}
use Rattle.wire.specs.Rules.{judge}
use Rattle.wire.proofs.Rules.{judge_append, judge_pass}
use Rattle.session.specs.Session.{session_remembering}
use Rattle.envelope.specs.Sealed.{late_rules, message_in}
use Rattle.message.specs.Reading.{message_rules, read_message}
use Rattle.message.specs.declared.Form.TheVariants.{Encrypted}
use Rattle.bridge.specs.Opener.{accepted_message, uart_text_rules}
use Rattle.bridge.specs.Opening.{refused_answer, answer_by, text_answer, text_session, opened_as}
use Rattle.bridge.proofs.Opening.{answer_read}
use Rattle.bridge.proofs.uart.read_sealed.Goals as goal

pub returns : goal.returns
unfolding text_answer uart_text_rules text_session
returns c =
    let a = c.args in
    let t = a.text.now in
    let m = message_in t in
    let e : c.message_in-m.result.now ≡ m = c.message_in-m.ensures in
    let n : c.end_of.result ≡ 6 + length m = c.end_of.ensures ∙ ap (λ (l : List ℕ). 6 + length l) e in
    let rest = message_rules Encrypted a.context.required a.context.mode m in
    let late = c.requires in
    ap₂ opened_as
    (c.answer_by.ensures
    ∙ ap (answer_by true 6 c.end_of.result) (c.read_message-read.ensures.answer ∙ ap (λ (l : List ℕ). read_message l Encrypted a.context.required a.context.mode) e)
    ∙ answer_read true 6 c.end_of.result m Encrypted a.context n
    ∙ sym (judge_append refused_answer (late_rules t) rest (accepted_message true 6 m)
    ∙ judge_pass refused_answer (late_rules t) (judge refused_answer rest (accepted_message true 6 m)) late))
    (c.remember.ensures ∙ sym (judge_pass (λ n. a.context.session) (late_rules t) (session_remembering a.context.session a.number) late))
