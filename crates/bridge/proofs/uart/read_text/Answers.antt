-- `uart::read_text` meets its contract. Assumes nothing.
use mathlib.Core.Bool.{true}
use mathlib.Core.Path.{sym, ap, ap₂, ◌∙◌}
use native.Mathlib.Omega.{arith}
use Rattle.std.specs.Prelude.{Err}
use Rattle.wire.specs.Rules.{judge}
use Rattle.wire.specs.declared.refusals.Refusal.{Refusal}
use Rattle.wire.proofs.Listed.{judged_err}
use Rattle.wire.proofs.Rules.{judge_append}
use Rattle.session.specs.Session.{session_remembering}
use Rattle.envelope.specs.Sealed.{late_rules, message_in}
use Rattle.message.specs.Reading.{message_rules}
use Rattle.message.specs.declared.Form.TheVariants.{Encrypted}
use Rattle.bridge.specs.Opener.{accepted_message, uart_text_rules}
use Rattle.bridge.specs.Opening.{refused_answer, text_answer, text_session, opened_as}
use Rattle.bridge.specs.Reply.{uart_refused}
use Rattle.bridge.proofs.Judging.{judge_stop}
use Rattle.bridge.proofs.uart.read_text.Goals as goal

pub returns-in-Err : goal.returns-in-Err
unfolding text_answer uart_text_rules text_session
returns-in-Err c =
    let a = c.args in
    let t = a.text.now in
    let rest = message_rules Encrypted a.context.required a.context.mode (message_in t) in
    let late = judged_err (late_rules t) tt (sym c.in-Err.is ∙ c.judge_text.ensures) in
    c.refused.ensures ∙ ap (λ (r : Refusal). opened_as (Err (uart_refused r)) a.context.session) (sym late.2)
    ∙ sym (ap₂ opened_as
    (judge_append refused_answer (late_rules t) rest (accepted_message true 6 (message_in t))
    ∙ judge_stop refused_answer (late_rules t) (judge refused_answer rest (accepted_message true 6 (message_in t))) _ late.1 (λ z. omega arith))
    (judge_stop (λ n. a.context.session) (late_rules t) (session_remembering a.context.session a.number) _ late.1 (λ z. omega arith)))
