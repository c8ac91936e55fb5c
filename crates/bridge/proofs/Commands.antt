-- The parts of the characteristic's opener put together. Assumes nothing.
use mathlib.Core.Path.{◌≡◌, refl, sym, ap, ap₂, ◌∙◌}
use mathlib.Core.List.{List, ◌++◌}
use Prim.Native.Nat.{ℕ, zero, suc, ◌+◌, ◌-◌, ◌*◌, ◌≤◌}
use native.Mathlib.Omega.{arith}
use lib.ListN.{length, get_or, drop}
use borrow.Author.Tests.{eq-eqb}
use Rattle.wire.specs.Numbers.{num}
use Rattle.wire.specs.Rules.{first_broken, verdict, judge}
use Rattle.wire.proofs.Rules.{verdict_map, judge_append, judge_pass}
use Rattle.wire.proofs.Held.{held}
use Rattle.access.specs.declared.Mode.{Mode}
use Rattle.access.specs.declared.Access.{Access}
use Rattle.control.specs.Control.{command_rules, command_at, read_control, read_command}
use Rattle.control.proofs.Reading.{control_read}
use Rattle.control.specs.declared.Command.{Command}
use Rattle.session.specs.Session.{connection_remembering}
use Rattle.envelope.specs.Blocks.{blocks_in, nonce_number, cleared}
use Rattle.envelope.specs.Characteristic.{characteristic_rules, packet_in}
use Rattle.envelope.proofs.Envelopes.{length_deciphered}
use Rattle.envelope.proofs.Unsealed.{packet_sized}
use Rattle.bridge.specs.Characteristic.{level_key, connection_rules, packet_entry_rules, packet_text, packet_text_rules, packet_open_rules, accepted_command, characteristic_answer_of, packet_pass_rules, connection_after, characteristic_opened, characteristic_work_after}
use Rattle.std.specs.Prelude.{Ok, Err}
use Rattle.wire.specs.Refusals.{refusing}
use Rattle.session.specs.Keys.{key_bytes}
use Rattle.bridge.specs.Content.{CommandAnswer}
use Rattle.bridge.specs.Opening.{refused_command, command_answer_by, command_text_answer, text_connection, opened_command_as, command_text_opened, work_by}
use Rattle.bridge.proofs.Judging.{judge_stop, blocks_whole, stopped_before, accepted_behind, refused_behind}
use Rattle.bridge.specs.declared.Link.{Link}
use Rattle.bridge.specs.declared.OpenedCommand.{OpenedCommand}
use Rattle.bridge.specs.declared.Place.{Place}
use Rattle.bridge.specs.declared.Refused.{Refused}

-- where none of 11, 18 and 13 is given, a packet is as long as its size field says: 18 of its reader adds nothing
pub packet_whole : (v text : List ℕ) → first_broken (characteristic_rules v text) ≡ 0 → length (packet_in text) ≡ 5 + num 2 3 (packet_in text)
unfolding characteristic_rules
packet_whole v text e = packet_sized text (held (characteristic_rules v text) (tt, (tt, (tt, tt))) e).1.0

pub packet_long : (v text : List ℕ) → first_broken (characteristic_rules v text) ≡ 0 → 5 ≤ length (packet_in text)
packet_long v text e = omega (arith, packet_whole v text e)

-- the answer by what a packet was read as is its rules judged
pub answer_read : (v text : List ℕ) (end : ℕ) (m : Mode) (a : Access) → end ≡ 4 + length (packet_in text) → first_broken (characteristic_rules v text) ≡ 0
    → command_answer_by end (read_control (packet_in text) m a) ≡ judge refused_command (command_rules (packet_in text) m a) (accepted_command text)
answer_read v text end m a e h =
    let q = packet_in text in
    let l : read_control q m a ≡ read_command q m a = control_read q m a ∙ simp (eq-eqb _ _ (packet_whole v text h)) in
    rw (e, l)
    (verdict_map (command_answer_by (4 + length q)) refusing (first_broken (command_rules q m a)) (Ok (command_at q)))

none_broken : (n : ℕ) (l : List ℕ) {a : Command × Place} → Ok a ≡ verdict refused_command n (accepted_command l) → n ≡ 0
none_broken zero l e = refl
none_broken (suc n) l e = absurd (let z : ◌≡◌ {A = ℕ} 0 1 = cc in omega arith)

some_broken : (n : ℕ) (l : List ℕ) {r : Refused} → Err r ≡ verdict refused_command n (accepted_command l) → n ≡ 0 → ⊥
some_broken zero l e z = let y : ◌≡◌ {A = ℕ} 0 1 = cc in omega arith
some_broken (suc n) l e z = omega arith

module _ (k : Link) (p work : List ℕ) where
  -- the flat list of rules is judged in two halves
  halves : characteristic_answer_of k (length work) p ≡ judge refused_command (packet_entry_rules k (length work) p) (command_text_answer k (get_or p 3 0) (packet_text k p))
  unfolding characteristic_answer_of packet_open_rules command_text_answer
  halves = judge_append refused_command (packet_entry_rules k (length work) p) (packet_text_rules k (get_or p 3 0) (packet_text k p)) (accepted_command (packet_text k p))

  connection_halves : connection_after k (length work) p ≡ judge (λ n. k.connection) (packet_entry_rules k (length work) p) (text_connection k (nonce_number p) (packet_text k p))
  unfolding connection_after packet_pass_rules text_connection
  connection_halves =
      judge_append (λ n. k.connection) (packet_entry_rules k (length work) p) (characteristic_rules k.connection.validation (packet_text k p)) (connection_remembering k.connection (nonce_number p))

  -- refused before it is deciphered
  pub refused_before : {n : ℕ} → n ≡ first_broken (packet_entry_rules k (length work) p) → (n ≡ 0 → ⊥)
      → (opened_command_as (refused_command n) k.connection ≡ characteristic_opened k (length work) p) × (work ≡ characteristic_work_after k p work)
  unfolding command_text_answer characteristic_opened characteristic_work_after
  refused_before {n} e h =
      let entry = packet_entry_rules k (length work) p in
      let t = packet_text k p in
      let s = stopped_before refused_command (accepted_command t) entry (packet_text_rules k (get_or p 3 0) t) (blocks_in p) t work e h in
      (ap₂ opened_command_as (s.0 ∙ sym halves) (sym (connection_halves ∙ judge_stop (λ n. k.connection) entry (text_connection k (nonce_number p) t) n e h)), s.1)

  module _ (entered : first_broken (packet_entry_rules k (length work) p) ≡ 0) where
    pub whole : (length p ≡ 4 + 16 * blocks_in p) × (16 * blocks_in p ≤ length work)
    unfolding packet_entry_rules
    whole = blocks_whole p (length work) (connection_rules k p) entered

    pub long : length (packet_text k p) ≡ 16 * blocks_in p
    unfolding packet_text
    long = length_deciphered (key_bytes (level_key k p)) k.connection.nonce p ∙ (let e : length p - 4 ≡ 16 * blocks_in p = omega (arith, whole.0) in e)

    accepted_after : {a : Command × Place} {after : List ℕ} → Ok a ≡ command_text_answer k (get_or p 3 0) (packet_text k p)
        → after ≡ packet_text k p ++ drop (16 * blocks_in p) work
        → (Ok a ≡ characteristic_answer_of k (length work) p) × (after ≡ characteristic_work_after k p work)
    unfolding command_text_answer characteristic_work_after
    accepted_after e w =
        let t = packet_text k p in
        let r = packet_text_rules k (get_or p 3 0) t in
        let s = accepted_behind refused_command (accepted_command t) (packet_entry_rules k (length work) p) r (blocks_in p) t work long entered e (none_broken (first_broken r) t e) w in
        (s.0 ∙ sym halves, s.1)

    refused_after : {r : Refused} {before after : List ℕ} {n : ℕ} → Err r ≡ command_text_answer k (get_or p 3 0) (packet_text k p)
        → before ≡ packet_text k p ++ drop (16 * blocks_in p) work → n ≡ 16 * blocks_in p → after ≡ cleared n before
        → (Err r ≡ characteristic_answer_of k (length work) p) × (after ≡ characteristic_work_after k p work)
    unfolding command_text_answer characteristic_work_after
    refused_after e w q c =
        let t = packet_text k p in
        let r = packet_text_rules k (get_or p 3 0) t in
        let s = refused_behind refused_command (accepted_command t) (packet_entry_rules k (length work) p) r (blocks_in p) t work long entered e (some_broken (first_broken r) t e) w q c in
        (s.0 ∙ sym halves, s.1)

    left_after : (a : CommandAnswer) {before after : List ℕ} {n : ℕ} → a ≡ command_text_answer k (get_or p 3 0) (packet_text k p)
        → before ≡ packet_text k p ++ drop (16 * blocks_in p) work → n ≡ 16 * blocks_in p → after ≡ work_by n before a
        → (a ≡ characteristic_answer_of k (length work) p) × (after ≡ characteristic_work_after k p work)
    left_after (Ok a) e w q z = accepted_after e (z ∙ w)
    left_after (Err r) e w q z = refused_after e w q z

    -- either, by the answer; and the connection
    pub answered_after : {r : OpenedCommand} {before after : List ℕ} {n : ℕ} → r ≡ command_text_opened k (get_or p 3 0) (nonce_number p) (packet_text k p)
        → before ≡ packet_text k p ++ drop (16 * blocks_in p) work → n ≡ 16 * blocks_in p → after ≡ work_by n before r.answer
        → (r ≡ characteristic_opened k (length work) p) × (after ≡ characteristic_work_after k p work)
    unfolding characteristic_opened
    answered_after {r} e w q z =
        let entry = packet_entry_rules k (length work) p in
        let t = packet_text k p in (
          e ∙ ap₂ opened_command_as (sym (halves ∙ judge_pass refused_command entry (command_text_answer k (get_or p 3 0) t) entered))
              (sym (connection_halves ∙ judge_pass (λ n. k.connection) entry (text_connection k (nonce_number p) t) entered)),
          (left_after r.answer (ap (λ (x : OpenedCommand). x.answer) e) w q z).1,
        )
