-- `characteristic::read_text` meets its contract. Assumes nothing.
use mathlib.Core.Path.{sym, ap, ap₂, ◌∙◌}
use native.Mathlib.Omega.{arith}
use Rattle.std.specs.Prelude.{Err}
use Rattle.wire.specs.Rules.{judge}
use Rattle.wire.specs.declared.refusals.Refusal.{Refusal}
use Rattle.wire.proofs.Listed.{judged_err}
use Rattle.wire.proofs.Rules.{judge_append}
use Rattle.access.specs.Level.{level_of}
use Rattle.control.specs.Control.{command_rules}
use Rattle.session.specs.Session.{connection_remembering}
use Rattle.envelope.specs.Characteristic.{characteristic_rules, packet_in}
use Rattle.bridge.specs.Characteristic.{access_for, packet_text_rules, accepted_command}
use Rattle.bridge.specs.Opening.{refused_command, command_text_answer, text_connection, opened_command_as}
use Rattle.bridge.specs.Reply.{characteristic_refused}
use Rattle.bridge.proofs.Judging.{judge_stop}
use Rattle.bridge.proofs.characteristic.read_text.Goals as goal

pub returns-in-Err : goal.returns-in-Err
unfolding command_text_answer packet_text_rules text_connection
returns-in-Err c =
    let a = c.args in
    let t = a.text.now in
    let v = a.link.connection.validation in
    let rest = command_rules (packet_in t) a.link.mode (access_for (level_of a.level)) in
    let late = judged_err (characteristic_rules v t) tt (sym c.in-Err.is ∙ c.judge_characteristic.ensures) in
    c.refused.ensures ∙ ap (λ (r : Refusal). opened_command_as (Err (characteristic_refused r)) a.link.connection) (sym late.2)
    ∙ sym (ap₂ opened_command_as
    (judge_append refused_command (characteristic_rules v t) rest (accepted_command t)
    ∙ judge_stop refused_command (characteristic_rules v t) (judge refused_command rest (accepted_command t)) _ late.1 (λ z. omega arith))
    (judge_stop (λ n. a.link.connection) (characteristic_rules v t) (connection_remembering a.link.connection a.number) _ late.1 (λ z. omega arith)))
