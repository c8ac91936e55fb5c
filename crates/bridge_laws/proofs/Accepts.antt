-- The openers accept exactly when each of demand 2's conditions holds. Assumes nothing.
use mathlib.Core.Path.{◌≡◌, refl, ap, ◌∙◌}
use mathlib.Core.Logic.{◌⊎◌, inl, inr, ⊎_elim}
use mathlib.Core.Bool.{Bool, true, false, not, ◌||◌}
use mathlib.Core.List.{List, ◌∷◌, ◌++◌}
use Prim.Native.Nat.{ℕ, ◌+◌, ◌*◌}
use native.Mathlib.Omega.{arith}
use lib.ListN.{length, get_or, take}
use lib.Dec.{eqb, ltb}
use borrow.Author.Tests.{le-ltb, ltb-false, eq-eqb, ne_eqb, eqb-true, not-false}
use Rattle.wire.specs.Choice.{pick}
use Rattle.wire.specs.Rules.{◌when◌, first_broken, Exactly}
use Rattle.wire.proofs.Choice.{or_fails}
use Rattle.wire.proofs.Rules.{first_none, first_right, none_append}
use Rattle.wire.proofs.Held.{held}
use Rattle.wire.proofs.Same.{same_self, same_bytes_lem}
use Rattle.wire.proofs.Given.{good_exactly, exactly_as}
use Rattle.access.specs.Level.{level_of}
use Rattle.control.specs.Control.{length_rules, command_rules}
use Rattle.control.proofs.Reading.{control_accepts, control_clear}
use Rattle.message.specs.Reading.{message_rules}
use Rattle.message.proofs.Accepts.{message_accepts, message_clear}
use Rattle.message.specs.declared.Form.TheVariants.{Plain, Encrypted}
use Rattle.envelope.specs.Blocks.{outside, wrong_length, not_least, blocks_in}
use Rattle.envelope.specs.Sealed.{message_size, late_rules, message_in}
use Rattle.envelope.specs.Characteristic.{characteristic_rules, packet_in}
use Rattle.bridge.specs.Opener.{admin_key, head_rules, plain_rules, block_rules, session_rules, uart_entry_rules, uart_text, uart_text_rules, uart_open_rules, accepted_message, answer_of, opened}
use Rattle.bridge.specs.Characteristic.{access_for, connection_rules, packet_entry_rules, packet_text, packet_text_rules, packet_open_rules, accepted_command, characteristic_answer_of, characteristic_opened}
use Rattle.bridge.specs.Opening.{refused_answer, refused_command}
use Rattle.bridge_laws.specs.Accepts.{is_accepted, is_command, AcceptsBlocks, AcceptsPlain, AcceptsSealed, AcceptsFrame, AcceptsPacket}
use Rattle.bridge.proofs.Commands.{packet_whole}
use Rattle.bridge.specs.declared.Context.{Context}
use Rattle.bridge.specs.declared.Link.{Link}
use Rattle.std.specs.Prelude.{is_some}

or_holds : (a b : Bool) → (a || b) ≡ true → (a ≡ true) ⊎ (b ≡ true)
or_holds true b e = inl refl
or_holds false b e = inr e

-- ---- 7 and 25
module _ (p : List ℕ) (room : ℕ) where
  blocks_accepts : first_broken (block_rules p room) ≡ 0 → AcceptsBlocks p room
  unfolding wrong_length
  blocks_accepts e =
      let n : ℕ = blocks_in p in
      let h = held (block_rules p room) (tt, (tt, tt)) e in
      let w = or_fails (outside 1 31 n) (not (eqb (length p) (4 + 16 * n))) h.0 in
      let o = or_fails (ltb n 1) (ltb 31 n) w.0 in
      record { some = ltb-false n 1 o.0; most = ltb-false 31 n o.1; whole = eqb-true _ _ (not-false _ w.1); fits = ltb-false room (16 * n) h.1.0 }

  pub blocks_clear : AcceptsBlocks p room → first_broken (block_rules p room) ≡ 0
  unfolding wrong_length
  blocks_clear w =
      let n : ℕ = blocks_in p in
      rw (le-ltb n 1 w.some, le-ltb 31 n w.most, eq-eqb (length p) (4 + 16 * n) w.whole, le-ltb room (16 * n) w.fits)

-- ---- a frame
module _ (g : Context) (p : List ℕ) where
  plain_accepts : first_broken (plain_rules g p) ≡ 0 → AcceptsPlain g p
  unfolding plain_rules
  plain_accepts e =
      let x = first_none 6 (ltb (length p) 2 || ltb 507 (length p)) (message_rules Plain g.required g.mode p) e in
      let o = or_fails (ltb (length p) 2) (ltb 507 (length p)) x.0 in
      record { some = ltb-false _ _ o.0; most = ltb-false _ _ o.1; message = message_accepts Plain g.required g.mode p x.1 }

  plain_clear : AcceptsPlain g p → first_broken (plain_rules g p) ≡ 0
  unfolding plain_rules
  plain_clear w =
      let e : (ltb (length p) 2 || ltb 507 (length p)) ≡ false = rw (le-ltb (length p) 2 w.some) (le-ltb 507 (length p) w.most) in
      ap (λ (b : Bool). first_broken ((7 when b) ∷ message_rules Plain g.required g.mode p)) e ∙ message_clear Plain g.required g.mode p w.message

  module _ (room : ℕ) where
    sealed_accepts : first_broken (uart_entry_rules g room p ++ uart_text_rules g (uart_text g p)) ≡ 0 → AcceptsSealed g room p
    unfolding uart_entry_rules session_rules uart_text_rules late_rules not_least
    sealed_accepts e =
        let t = uart_text g p in
        let x = none_append (uart_entry_rules g room p) (uart_text_rules g t) e in
        let y = none_append (block_rules p room) (session_rules g p) x.0 in
        let z = none_append (late_rules t) (message_rules Encrypted g.required g.mode (message_in t)) x.1 in
        let s = held (session_rules g p) (tt, (tt, (tt, (tt, tt)))) y.1 in
        let h = held (late_rules t) (tt, (tt, tt)) z.0 in
        let k = or_fails (not (eqb (get_or p 3 0) 0)) (not (is_some (admin_key g))) s.0 in
        let o = or_fails (ltb (message_size t) 2) (not_least t (6 + message_size t)) h.1.0 in
        record {
          blocks = blocks_accepts p room y.0;
          id = eqb-true _ _ (not-false _ k.0);
          key = not-false _ k.1;
          session = not-false _ s.1.0;
          valid = not-false _ s.1.1.0;
          differs = s.1.1.1.0;
          validation = eqb-true _ _ (not-false _ h.0);
          size = ltb-false _ _ o.0;
          least = eqb-true _ _ (not-false _ o.1);
          message = message_accepts Encrypted g.required g.mode (message_in t) z.1;
        }

    session_clear : AcceptsSealed g room p → first_broken (session_rules g p) ≡ 0
    unfolding session_rules
    session_clear w = rw (eq-eqb _ _ w.id, w.key, w.session, w.valid, w.differs)

    late_clear : AcceptsSealed g room p → first_broken (late_rules (uart_text g p)) ≡ 0
    unfolding late_rules not_least
    late_clear w = rw (eq-eqb _ _ w.validation, le-ltb (message_size (uart_text g p)) 2 w.size, eq-eqb _ _ w.least)

    sealed_clear : AcceptsSealed g room p → first_broken (uart_entry_rules g room p ++ uart_text_rules g (uart_text g p)) ≡ 0
    unfolding uart_entry_rules uart_text_rules
    sealed_clear w =
        let t = uart_text g p in
        let rest = message_rules Encrypted g.required g.mode (message_in t) in
        first_right (uart_entry_rules g room p) (uart_text_rules g t)
        (first_right (block_rules p room) (session_rules g p) (blocks_clear p room w.blocks) ∙ session_clear w)
        ∙ first_right (late_rules t) rest (late_clear w) ∙ message_clear Encrypted g.required g.mode (message_in t) w.message

module _ (g : Context) (room major wrapper : ℕ) (p : List ℕ) where
  rules_accept : first_broken (uart_open_rules g room major wrapper p) ≡ 0 → AcceptsFrame g room major wrapper p
  unfolding uart_open_rules
  rules_accept e =
      let rest = pick (eqb wrapper 128) (uart_entry_rules g room p ++ uart_text_rules g (uart_text g p)) (plain_rules g p) in
      let x = none_append (head_rules major wrapper) rest e in
      let h = held (head_rules major wrapper) (tt, (tt, tt)) x.0 in
      record {
        version = eqb-true _ _ (not-false _ h.0);
        form =
            ⊎_elim (λ z. inl (eqb-true wrapper 0 z)) (λ z. inr (eqb-true wrapper 128 z))
            (or_holds (eqb wrapper 0) (eqb wrapper 128) (not-false _ h.1.0));
        plain = λ q. plain_accepts g p (rw (ne_eqb wrapper 128 (λ z. omega arith)) at x.1);
        sealed = λ q. sealed_accepts g p room (rw (eq-eqb wrapper 128 q) at x.1);
      }

  pub rules_clear : AcceptsFrame g room major wrapper p → first_broken (uart_open_rules g room major wrapper p) ≡ 0
  unfolding uart_open_rules
  rules_clear w =
      ⊎_elim
      (λ (q : wrapper ≡ 0). rw (w.version, q) (plain_clear g p (w.plain q)))
      (λ (q : wrapper ≡ 128). rw (w.version, q) (sealed_clear g p room (w.sealed q)))
      w.form

  -- the opener of frames
  pub frame_accepted : Exactly (is_accepted (opened g room major wrapper p).answer) (AcceptsFrame g room major wrapper p)
  unfolding opened answer_of
  frame_accepted =
      exactly_as
      (good_exactly is_accepted refused_answer (uart_open_rules g room major wrapper p)
      (pick (eqb wrapper 128) (accepted_message true 6 (message_in (uart_text g p))) (accepted_message false 0 p)) (λ n. refl) (good (eqb wrapper 128)))
      rules_accept
      rules_clear
    where
      good : (b : Bool) → is_accepted (pick b (accepted_message true 6 (message_in (uart_text g p))) (accepted_message false 0 p)) ≡ true
      good true = refl
      good false = refl

-- ---- a characteristic packet
module _ (k : Link) (room : ℕ) (p : List ℕ) where
  packet_accepts : first_broken (packet_open_rules k room p) ≡ 0 → AcceptsPacket k room p
  unfolding packet_open_rules packet_entry_rules connection_rules packet_text_rules characteristic_rules not_least
  packet_accepts e =
      let t = packet_text k p in
      let v = k.connection.validation in
      let a = access_for (level_of (get_or p 3 0)) in
      let x = none_append (packet_entry_rules k room p) (packet_text_rules k (get_or p 3 0) t) e in
      let y = none_append (block_rules p room) (connection_rules k p) x.0 in
      let z = none_append (characteristic_rules v t) (command_rules (packet_in t) k.mode a) x.1 in
      let s = held (connection_rules k p) (tt, (tt, (tt, tt))) y.1 in
      let h = held (characteristic_rules v t) (tt, (tt, (tt, tt))) z.0 in
      record {
        blocks = blocks_accepts p room y.0;
        key = not-false _ s.0;
        session = not-false _ s.1.0;
        differs = s.1.1.0;
        validation = same_bytes_lem (take 4 t) v (not-false _ h.0);
        least = eqb-true _ _ (not-false _ h.1.0);
        padding = not-false _ h.1.1.0;
        packet = control_accepts (packet_in t) k.mode a (rw (eq-eqb _ _ (packet_whole v t z.0)) z.1);
      }

  connection_clear : AcceptsPacket k room p → first_broken (connection_rules k p) ≡ 0
  unfolding connection_rules
  connection_clear w = rw (w.key, w.session, w.differs)

  text_clear : AcceptsPacket k room p → first_broken (characteristic_rules k.connection.validation (packet_text k p)) ≡ 0
  unfolding characteristic_rules not_least
  text_clear w = rw (w.validation, same_self k.connection.validation, eq-eqb _ _ w.least, w.padding)

  pub packet_clear : AcceptsPacket k room p → first_broken (packet_open_rules k room p) ≡ 0
  unfolding packet_open_rules packet_entry_rules packet_text_rules
  packet_clear w =
      let t = packet_text k p in
      let a = access_for (level_of (get_or p 3 0)) in
      let rest = command_rules (packet_in t) k.mode a in
      first_right (packet_entry_rules k room p) (packet_text_rules k (get_or p 3 0) t)
      (first_right (block_rules p room) (connection_rules k p) (blocks_clear p room w.blocks) ∙ connection_clear w)
      ∙ first_right (characteristic_rules k.connection.validation t) rest (text_clear w)
      ∙ (none_append (length_rules (packet_in t)) rest (control_clear (packet_in t) k.mode a w.packet)).1

  -- the opener of characteristic packets
  pub packet_accepted : Exactly (is_command (characteristic_opened k room p).answer) (AcceptsPacket k room p)
  unfolding characteristic_opened characteristic_answer_of
  packet_accepted =
      exactly_as (good_exactly is_command refused_command (packet_open_rules k room p) (accepted_command (packet_text k p)) (λ n. refl) refl) packet_accepts packet_clear
