-- `characteristic::read_packet` meets its contract. Assumes nothing.
use mathlib.Core.Path.{◌≡◌, sym, ap, ap₂, ◌∙◌}
use mathlib.Core.List.{List}
use Prim.Native.Nat.{ℕ, ◌+◌}
use native.Mathlib.Omega.{arith}
use lib.ListN.{length}
use Rattle.wire.specs.Rules.{judge}
use Rattle.wire.proofs.Rules.{judge_append, judge_pass}
use Rattle.access.specs.Level.{level_of}
use Rattle.access.specs.declared.Access.{Access}
use Rattle.control.specs.Control.{command_rules, read_control}
use Rattle.session.specs.Session.{connection_remembering}
use Rattle.envelope.specs.Characteristic.{characteristic_rules, packet_in}
use Rattle.bridge.specs.Characteristic.{access_for, packet_text_rules, accepted_command}
use Rattle.bridge.specs.Opening.{refused_command, command_answer_by, command_text_answer, text_connection, opened_command_as}
use Rattle.bridge.proofs.Commands.{answer_read, packet_long}
use Rattle.bridge.proofs.characteristic.read_packet.Goals as goal

pub answer_by-requires : goal.answer_by-requires
answer_by-requires c =
    let a = c.args in
    omega (arith, c.end_of.ensures, ap length c.packet_in-packet.ensures, packet_long a.link.connection.validation a.text.now c.requires)

pub returns : goal.returns
unfolding command_text_answer packet_text_rules text_connection
returns c =
    let a = c.args in
    let t = a.text.now in
    let v = a.link.connection.validation in
    let x = access_for (level_of a.level) in
    let e : c.packet_in-packet.result.now ≡ packet_in t = c.packet_in-packet.ensures in
    let n : c.end_of.result ≡ 4 + length (packet_in t) = c.end_of.ensures ∙ ap (λ (l : List ℕ). 4 + length l) e in
    let rest = command_rules (packet_in t) a.link.mode x in
    let h = c.requires in
    ap₂ opened_command_as
    (c.answer_by.ensures
    ∙ ap (command_answer_by c.end_of.result)
    (c.read_control-read.ensures.answer ∙ ap₂ (λ (l : List ℕ) (y : Access). read_control l a.link.mode y) e c.access_for.ensures)
    ∙ answer_read v t c.end_of.result a.link.mode x n h
    ∙ sym (judge_append refused_command (characteristic_rules v t) rest (accepted_command t)
    ∙ judge_pass refused_command (characteristic_rules v t) (judge refused_command rest (accepted_command t)) h))
    (c.remember.ensures ∙ sym (judge_pass (λ n. a.link.connection) (characteristic_rules v t) (connection_remembering a.link.connection a.number) h))
