-- A sealed message that passed all of 10 to 13 is refused when it comes again. Assumes nothing.
use mathlib.Core.Path.{◌≡◌, refl, sym, ap, ap₂, ◌∙◌, subst}
use mathlib.Core.Bool.{Bool, true, false, not, ◌&&◌, ◌||◌}
use mathlib.Core.List.{List, [], ◌∷◌, ◌++◌}
use Prim.Native.Nat.{ℕ, suc, ◌*◌}
use native.Mathlib.Omega.{arith}
use lib.ListN.{get_or}
use lib.Dec.{eqb, ltb}
use borrow.Author.Tests.{eq-eqb, eqb-true, not-false}
use Rattle.wire.specs.Rules.{Rule, ◌when◌, first_broken, among}
use Rattle.wire.proofs.Choice.{and_holds}
use Rattle.wire.proofs.Rules.{none_append, judge_pass}
use Rattle.wire.proofs.Held.{held}
use Rattle.message.specs.Reading.{message_rules}
use Rattle.message.specs.declared.Form.TheVariants.{Encrypted}
use Rattle.session.specs.Memory.{remembered}
use Rattle.session.specs.Session.{session_there, valid_at, session_remembering, connection_there, connection_remembering}
use Rattle.session.specs.declared.Connection.{Connection}
use Rattle.session.specs.declared.Session.{Session}
use Rattle.session.proofs.Remembered.{among_first}
use Rattle.session.proofs.Kept.{session_there_lem, session_remembers, connection_there_lem, connection_remembers}
use Rattle.envelope.specs.Blocks.{blocks_in, wrong_length, nonce_number, used_again}
use Rattle.envelope.specs.Sealed.{late_rules, message_in}
use Rattle.envelope.specs.Characteristic.{characteristic_rules, packet_in}
use Rattle.bridge.specs.Content.{refusal_number}
use Rattle.bridge.specs.Opener.{admin_key, head_rules, block_rules, session_rules, uart_entry_rules, uart_text, uart_text_rules, uart_open_rules, session_after, opened, uart_pass_rules}
use Rattle.bridge.specs.Characteristic.{connection_rules, packet_entry_rules, packet_text, packet_text_rules, packet_open_rules, accepted_command, characteristic_answer_of, connection_after, characteristic_opened, packet_pass_rules, level_key, access_for}
use Rattle.bridge.specs.Opening.{refused_answer, text_answer, text_session, sealed_answer, sealed_session, opened_as, refused_command, opened_command_as}
use Rattle.bridge.proofs.Judging.{first_stop, judge_stop}
use Rattle.bridge.proofs.Opening.{sealed_opened_lem}
use Rattle.bridge.specs.declared.Context.{Context}
use Rattle.bridge.specs.declared.Link.{Link}
use Rattle.bridge.specs.declared.Opened.{Opened}
use Rattle.bridge.specs.declared.OpenedCommand.{OpenedCommand}
use Rattle.bridge_laws.specs.Accepts.{is_accepted, is_command}
use Rattle.bridge_laws.specs.Replay.{FrameCall, context_for, opened_frame, frame_step, frame_passes, FrameRefused, PacketCall, link_for, opened_packet, packet_passes, opens, connection_step, connection_passes, PacketRefused, ReplayRefused}
use Rattle.bridge_laws.proofs.Accepts.{blocks_clear}
use Rattle.bridge_laws.proofs.Stays.{still, SessionHolds, ConnectionHolds, it_remembered, rules, session_with, frame_step_lem, connection_step_lem}
use Rattle.wire.proofs.Given.{passed_first}
use Rattle.control.specs.Control.{command_rules}
use Rattle.access.specs.Level.{level_of}
use Rattle.bridge_laws.proofs.Never.{frame_number, packet_number}
use Rattle.std.specs.Prelude.{is_some}
use Rattle.wire.specs.Refusals.{number_of, refusal_of}

-- ---- what comes of a packet nonce that is remembered
-- 7, 25, 10, 9 and 28, by what applies before 28; no 9 on the characteristic
abbrev given : Bool → Bool → Bool → Bool → ℕ
given length room key time = first_broken ((7 when length) ∷ (25 when room) ∷ (10 when key) ∷ (9 when time) ∷ (28 when true) ∷ [])

some_given : (a b c d : Bool) → given a b c d ≡ 0 → ⊥
some_given true b c d e = omega arith
some_given false true c d e = omega arith
some_given false false true d e = omega arith
some_given false false false true e = omega arith
some_given false false false false e = omega arith

one_of_five : (a b c d : Bool) → among (number_of (refusal_of (given a b c d))) (7 ∷ 25 ∷ 10 ∷ 9 ∷ 28 ∷ []) ≡ true
one_of_five true b c d = refl
one_of_five false true c d = refl
one_of_five false false true d = refl
one_of_five false false false true = refl
one_of_five false false false false = refl

one_of_four : (a b c : Bool) → among (number_of (refusal_of (given a b c false))) (7 ∷ 25 ∷ 10 ∷ 28 ∷ []) ≡ true
one_of_four true b c = refl
one_of_four false true c = refl
one_of_four false false true = refl
one_of_four false false false = refl

module _ (s : Session) (c : FrameCall) (there : session_there s ≡ true) (again : used_again s.memory c.payload ≡ true) where
  abbrev here : Context
  here = context_for s c

  abbrev sent : List ℕ
  sent = c.payload

  abbrev no_room : Bool
  no_room = ltb c.room (16 * blocks_in sent)

  abbrev key_missing : Bool
  key_missing = not (eqb (get_or sent 3 0) 0) || not (is_some (admin_key here))

  abbrev no_time : Bool
  no_time = not (valid_at s c.time)

  abbrev number : ℕ
  number = given (wrong_length sent) no_room key_missing no_time

  entry_given : number ≡ first_broken (uart_entry_rules here c.room sent)
  unfolding uart_entry_rules session_rules
  entry_given = sym (rw (there, again))

  frame_again : opened here c.room 1 128 sent ≡ opened_as (refused_answer number) s
  unfolding sealed_answer sealed_session
  frame_again =
      let entry : List Rule = uart_entry_rules here c.room sent in
      let some = some_given (wrong_length sent) no_room key_missing no_time in
      sym (sealed_opened_lem here c.room sent)
      ∙ ap₂ opened_as (judge_stop refused_answer entry (text_answer here (uart_text here sent)) number entry_given some)
      (judge_stop (λ i. s) entry (text_session here (nonce_number sent) (uart_text here sent)) number entry_given some)

  frame_refused : c.major ≡ 1 → c.wrapper ≡ 128 → FrameRefused s c
  frame_refused major wrapper =
      let e : opened_frame s c ≡ opened_as (refused_answer number) s = ap₂ (λ (i j : ℕ). opened here c.room i j sent) major wrapper ∙ frame_again in
      record {
        never = ap (λ (r : Opened). is_accepted r.answer) e;
        number = ap (λ (r : Opened). among (refusal_number r.answer) (7 ∷ 25 ∷ 10 ∷ 9 ∷ 28 ∷ [])) e ∙ one_of_five (wrong_length sent) no_room key_missing no_time;
        exactly = λ blocks id key valid.
            let h = held (block_rules sent c.room) (tt, (tt, tt)) (blocks_clear sent c.room blocks) in
            ap (λ (r : Opened). refusal_number r.answer) e ∙ rw (h.0, h.1.0, id, key, valid);
        session = ap (λ (r : Opened). r.session) e;
      }

packet_refused : (c : Connection) (q : PacketCall) → connection_there c ≡ true → used_again c.memory q.packet ≡ true → PacketRefused c q
unfolding characteristic_opened characteristic_answer_of packet_open_rules connection_after packet_pass_rules packet_entry_rules connection_rules
packet_refused c q there again =
    let k : Link = link_for c q in
    let p : List ℕ = q.packet in
    let a : Bool = wrong_length p in
    let b : Bool = ltb q.room (16 * blocks_in p) in
    let d : Bool = not (is_some (level_key k p)) in
    let entry : List Rule = packet_entry_rules k q.room p in
    let late : List Rule = characteristic_rules c.validation (packet_text k p) in
    let text : List Rule = packet_text_rules k (get_or p 3 0) (packet_text k p) in
    let n : given a b d false ≡ first_broken entry = sym (rw (there, again)) in
    let some = some_given a b d false in
    let e : opened_packet c q ≡ opened_command_as (refused_command (given a b d false)) c =
    ap₂ opened_command_as (judge_stop refused_command (entry ++ text) (accepted_command (packet_text k p)) (given a b d false) (first_stop entry text n some) some)
    (judge_stop (λ i. c) (entry ++ late) (connection_remembering c (nonce_number p)) (given a b d false) (first_stop entry late n some) some) in
    record {
      never = ap (λ (r : OpenedCommand). is_command r.answer) e;
      number = ap (λ (r : OpenedCommand). among (refusal_number r.answer) (7 ∷ 25 ∷ 10 ∷ 28 ∷ [])) e ∙ one_of_four a b d;
      exactly = λ blocks key.
          let h = held (block_rules p q.room) (tt, (tt, tt)) (blocks_clear p q.room blocks) in
          ap (λ (r : OpenedCommand). refusal_number r.answer) e ∙ rw (h.0, h.1.0, key);
      connection = ap (λ (r : OpenedCommand). r.connection) e;
    }

-- ---- the first time: its packet nonce stands in front
module _ (s : Session) (c : FrameCall) (e : frame_passes s c ≡ true) where
  abbrev n : ℕ
  n = nonce_number c.payload

  none_broken : (eqb c.wrapper 128 ≡ true) × (first_broken (rules n s c) ≡ 0)
  none_broken = let h = and_holds (eqb c.wrapper 128) (eqb (first_broken (rules n s c)) 0) e in (h.0, eqb-true _ 0 h.1)

  session_was : session_there s ≡ true
  unfolding uart_pass_rules uart_entry_rules session_rules
  session_was =
      let g : Context = context_for s c in
      let late : List Rule = late_rules (uart_text g c.payload) in
      let entry : List Rule = uart_entry_rules g c.room c.payload in
      let x = (none_append entry late (none_append (head_rules c.major c.wrapper) (entry ++ late) none_broken.1).1).0 in
      not-false _ (held entry (tt, (tt, (tt, (tt, (tt, (tt, tt)))))) x).1.1.1.0

  session_is : frame_step s c ≡ session_remembering s n
  unfolding opened session_after
  session_is = ap (λ (w : Bool). session_with n s c w) none_broken.0 ∙ judge_pass (λ i. s) (rules n s c) (session_remembering s n) none_broken.1

  first_frame : SessionHolds n (frame_step s c) 0
  first_frame =
      subst (λ (t : Session). SessionHolds n t 0) (sym session_is) (it_remembered n s.memory (session_there_lem s n session_was) (session_remembers s n session_was))

module _ (c : Connection) (q : PacketCall) (e : packet_passes c q ≡ true) where
  abbrev k : Link
  k = link_for c q

  connection_was : connection_there c ≡ true
  unfolding packet_pass_rules packet_entry_rules connection_rules
  connection_was =
      let entry : List Rule = packet_entry_rules k q.room q.packet in
      let x = (none_append entry (characteristic_rules c.validation (packet_text k q.packet)) (eqb-true _ 0 e)).0 in
      not-false _ (held entry (tt, (tt, (tt, (tt, (tt, tt))))) x).1.1.1.0

  first_packet : ConnectionHolds (nonce_number q.packet) (opened_packet c q).connection 0
  unfolding characteristic_opened connection_after
  first_packet =
      let x : ℕ = nonce_number q.packet in
      subst (λ (d : Connection). ConnectionHolds x d 0) (sym (judge_pass (λ i. c) (packet_pass_rules k q.room q.packet) (connection_remembering c x) (eqb-true _ 0 e)))
      (it_remembered x c.memory (connection_there_lem c x connection_was) (connection_remembers c x connection_was))

-- ---- past 13
-- the rules of an encrypted message: those that it passes, and the message's own
frame_rules : (g : Context) (room major wrapper : ℕ) (p : List ℕ) → wrapper ≡ 128
    → uart_open_rules g room major wrapper p ≡ uart_pass_rules g room major wrapper p ++ message_rules Encrypted g.required g.mode (message_in (uart_text g p))
unfolding uart_open_rules uart_pass_rules uart_entry_rules session_rules uart_text_rules late_rules
frame_rules g room major wrapper p w = rw (eq-eqb wrapper 128 w) refl

packet_rules : (k : Link) (room : ℕ) (p : List ℕ)
    → packet_open_rules k room p ≡ packet_pass_rules k room p ++ command_rules (packet_in (packet_text k p)) k.mode (access_for (level_of (get_or p 3 0)))
unfolding packet_open_rules packet_pass_rules packet_entry_rules connection_rules packet_text_rules characteristic_rules
packet_rules k room p = refl

past_frame : (s : Session) (c : FrameCall) → c.wrapper ≡ 128
    → among (refusal_number (opened_frame s c).answer) (0 ∷ 14 ∷ 15 ∷ 16 ∷ 17 ∷ 18 ∷ 19 ∷ 20 ∷ 21 ∷ 22 ∷ 23 ∷ 24 ∷ []) ≡ true → frame_passes s c ≡ true
unfolding uart_pass_rules uart_entry_rules session_rules late_rules
past_frame s c w h =
    let g : Context = context_for s c in
    let ms : List ℕ = 0 ∷ 14 ∷ 15 ∷ 16 ∷ 17 ∷ 18 ∷ 19 ∷ 20 ∷ 21 ∷ 22 ∷ 23 ∷ 24 ∷ [] in
    let xs : List Rule = uart_pass_rules g c.room c.major c.wrapper c.payload in
    let ys : List Rule = message_rules Encrypted c.required c.mode (message_in (uart_text g c.payload)) in
    let e : refusal_number (opened_frame s c).answer ≡ first_broken (xs ++ ys) =
    frame_number g c.room c.payload c.major c.wrapper ∙ ap first_broken (frame_rules g c.room c.major c.wrapper c.payload w) in
    ap₂ ◌&&◌ (eq-eqb c.wrapper 128 w) (eq-eqb (first_broken xs) 0 (passed_first xs ys ms refl (ap (λ (n : ℕ). among n ms) (sym e) ∙ h)))

past_packet_lem : (c : Connection) (q : PacketCall) → among (refusal_number (opened_packet c q).answer) (0 ∷ 19 ∷ 20 ∷ 21 ∷ 22 ∷ 23 ∷ 24 ∷ []) ≡ true
    → packet_passes c q ≡ true
unfolding packet_pass_rules packet_entry_rules connection_rules characteristic_rules
past_packet_lem c q h =
    let k : Link = link_for c q in
    let p : List ℕ = q.packet in
    let ms : List ℕ = 0 ∷ 19 ∷ 20 ∷ 21 ∷ 22 ∷ 23 ∷ 24 ∷ [] in
    let xs : List Rule = packet_pass_rules k q.room p in
    let ys : List Rule = command_rules (packet_in (packet_text k p)) k.mode (access_for (level_of (get_or p 3 0))) in
    let e : refusal_number (opened_packet c q).answer ≡ first_broken (xs ++ ys) = packet_number k q.room p ∙ ap first_broken (packet_rules k q.room p) in
    eq-eqb (first_broken xs) 0 (passed_first xs ys ms refl (ap (λ (n : ℕ). among n ms) (sym e) ∙ h))

-- ---- the law
pub replay_refused : ReplayRefused
replay_refused =
    record {
      past = past_frame;
      past_packet = past_packet_lem;
      frame = λ s first again between e stays few major wrapper same.
          let x : ℕ = nonce_number first.payload in
          still frame_step frame_passes (λ (t : Session). t.nonce) (SessionHolds x) (frame_step_lem x) between (frame_step s first) 0 (first_frame s first e) stays (omega arith)
          (λ t i h q. subst (λ (y : Session). FrameRefused y again) q
          (frame_refused t again h.there_is (ap (λ (y : ℕ). among y (remembered t.memory)) same ∙ among_first x (suc i) (remembered t.memory) h.within) major wrapper));
      packet = λ c first again between e stays few same.
          let x : ℕ = nonce_number first.packet in
          still connection_step connection_passes (λ (d : Connection). d.nonce) (ConnectionHolds x) (connection_step_lem x) between (connection_step c (opens first)) 0 (first_packet c first e)
          stays (omega arith)
          (λ d i h q. subst (λ (y : Connection). PacketRefused y again) q
          (packet_refused d again h.there_is (ap (λ (y : ℕ). among y (remembered d.memory)) same ∙ among_first x (suc i) (remembered d.memory) h.within)));
    }
