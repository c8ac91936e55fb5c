-- Numbers that an opener never gives. Assumes nothing.
use mathlib.Core.Path.{◌≡◌, refl, sym}
use mathlib.Core.Bool.{Bool, true, false, not, ◌||◌}
use mathlib.Core.List.{List, [], ◌∷◌, ◌++◌}
use Prim.Native.Nat.{ℕ}
use lib.ListN.{length, get_or}
use lib.Dec.{eqb, ltb}
use borrow.Author.Tests.{not-false}
use Rattle.wire.specs.Choice.{pick}
use Rattle.wire.specs.Rules.{◌when◌, first_broken, numbers, among}
use Rattle.wire.proofs.Choice.{true_false, or_fails}
use Rattle.wire.proofs.Held.{held}
use Rattle.wire.proofs.Lookup.{NoneOf}
use Rattle.wire.proofs.Listed.{number_listed}
use Rattle.bridge.proofs.Contents.{frame_listed, packet_listed}
use Rattle.wire.proofs.Given.{never, past_first}
use Rattle.access.specs.declared.Mode.{Mode}
use Rattle.access.specs.declared.Mode.TheVariants.{Normal, Setup}
use Rattle.access.specs.declared.Level.TheVariants.{Admin}
use Rattle.message.specs.Reading.{message_rules}
use Rattle.message.specs.declared.Form.TheVariants.{Plain, Encrypted}
use Rattle.message.proofs.Never.{message_lacks_13, message_never}
use Rattle.session.specs.Keys.{key_for}
use Rattle.session.specs.declared.Keys.{Keys}
use Rattle.envelope.specs.Sealed.{late_rules, message_in}
use Rattle.envelope.specs.Characteristic.{characteristic_rules}
use Rattle.bridge.specs.Content.{refusal_number}
use Rattle.bridge.specs.Opener.{admin_key, head_rules, plain_rules, session_rules, uart_entry_rules, uart_text, uart_text_rules, uart_open_rules, accepted_message, answer_of, opened}
use Rattle.bridge.specs.Opening.{refused_answer, refused_command}
use Rattle.bridge.specs.Characteristic.{connection_rules, packet_entry_rules, packet_text, packet_text_rules, packet_open_rules, accepted_command, characteristic_answer_of, characteristic_opened}
use Rattle.bridge.specs.declared.Context.{Context}
use Rattle.bridge.specs.declared.Link.{Link}
use Rattle.std.specs.Prelude.{is_some}

-- ---- a frame: 13 and 22 never
-- an admin key is held in normal mode only
admin_normal : (k : Keys) (m : Mode) → is_some (key_for k m Admin) ≡ true → m ≡ Normal
admin_normal k Normal e = refl
admin_normal k Setup e = true_false (sym e)

-- an encrypted message that is deciphered came in normal mode
entered_normal : (g : Context) (room : ℕ) (p : List ℕ) → first_broken (uart_entry_rules g room p) ≡ 0 → g.mode ≡ Normal
unfolding uart_entry_rules session_rules
entered_normal g room p e =
    let h = held (uart_entry_rules g room p) (tt, (tt, (tt, (tt, (tt, (tt, tt)))))) e in
    admin_normal g.keys g.mode (not-false _ (or_fails (not (eqb (get_or p 3 0) 0)) (not (is_some (admin_key g))) h.1.1.0).1)

module _ (g : Context) (room : ℕ) (p : List ℕ) where
  plain_never : first_broken (plain_rules g p) ≡ 22 → ⊥
  unfolding plain_rules
  plain_never e =
      message_never Plain g.required g.mode tt p
      (past_first ((7 when (ltb (length p) 2 || ltb 507 (length p))) ∷ []) (message_rules Plain g.required g.mode p) 21 refl e).1

  sealed_never : first_broken (uart_entry_rules g room p ++ uart_text_rules g (uart_text g p)) ≡ 22 → ⊥
  unfolding uart_entry_rules session_rules uart_text_rules late_rules
  sealed_never e =
      let t = uart_text g p in
      let x = past_first (uart_entry_rules g room p) (uart_text_rules g t) 21 refl e in
      let y = past_first (late_rules t) (message_rules Encrypted g.required g.mode (message_in t)) 21 refl x.1 in
      message_never Encrypted g.required g.mode (entered_normal g room p x.0) (message_in t) y.1

  rules_never : (major wrapper : ℕ) → first_broken (uart_open_rules g room major wrapper p) ≡ 22 → ⊥
  unfolding uart_open_rules
  rules_never major wrapper e = go (eqb wrapper 128) e
    where
      go : (b : Bool) → first_broken (head_rules major wrapper ++ pick b (uart_entry_rules g room p ++ uart_text_rules g (uart_text g p)) (plain_rules g p)) ≡ 22 → ⊥
      go true e = sealed_never (past_first (head_rules major wrapper) (uart_entry_rules g room p ++ uart_text_rules g (uart_text g p)) 21 refl e).1
      go false e = plain_never (past_first (head_rules major wrapper) (plain_rules g p) 21 refl e).1

  rules_lack_13 : (major wrapper : ℕ) → among 13 (numbers (uart_open_rules g room major wrapper p)) ≡ false
  unfolding uart_open_rules uart_entry_rules session_rules uart_text_rules late_rules plain_rules
  rules_lack_13 major wrapper = go (eqb wrapper 128)
    where
      go : (b : Bool) → among 13 (numbers (head_rules major wrapper ++ pick b (uart_entry_rules g room p ++ uart_text_rules g (uart_text g p)) (plain_rules g p))) ≡ false
      go true = message_lacks_13 Encrypted g.required g.mode (message_in (uart_text g p))
      go false = message_lacks_13 Plain g.required g.mode p

  -- the number in an answer is that of the first broken rule
  pub frame_number : (major wrapper : ℕ) → refusal_number (opened g room major wrapper p).answer ≡ first_broken (uart_open_rules g room major wrapper p)
  unfolding opened answer_of
  frame_number major wrapper =
      number_listed refusal_number refused_answer (uart_open_rules g room major wrapper p)
      (pick (eqb wrapper 128) (accepted_message true 6 (message_in (uart_text g p))) (accepted_message false 0 p)) (frame_listed g room major wrapper p) (λ n e. e) (zero (eqb wrapper 128))
    where
      zero : (b : Bool) → refusal_number (pick b (accepted_message true 6 (message_in (uart_text g p))) (accepted_message false 0 p)) ≡ 0
      zero true = refl
      zero false = refl

  -- the opener of frames gives neither
  pub frame_never : (major wrapper : ℕ) → NoneOf (13 ∷ 22 ∷ []) (refusal_number (opened g room major wrapper p).answer)
  frame_never major wrapper =
      rw (frame_number major wrapper) (never (uart_open_rules g room major wrapper p) 12 (rules_lack_13 major wrapper), (rules_never major wrapper, tt))

-- ---- a characteristic packet: 5, 6, 9, 12 and 14 to 17 never
pub packet_number : (k : Link) (room : ℕ) (p : List ℕ) → refusal_number (characteristic_opened k room p).answer ≡ first_broken (packet_open_rules k room p)
unfolding characteristic_opened characteristic_answer_of
packet_number k room p =
    number_listed refusal_number refused_command (packet_open_rules k room p) (accepted_command (packet_text k p)) (packet_listed k room p) (λ n e. e) refl

pub packet_never : (k : Link) (room : ℕ) (p : List ℕ)
    → NoneOf (5 ∷ 6 ∷ 9 ∷ 12 ∷ 14 ∷ 15 ∷ 16 ∷ 17 ∷ []) (refusal_number (characteristic_opened k room p).answer)
unfolding packet_open_rules packet_entry_rules connection_rules packet_text_rules characteristic_rules
packet_never k room p =
    let rules = packet_open_rules k room p in
    rw (packet_number k room p) (
      never rules 4 refl,
      (
        never rules 5 refl,
        (
          never rules 8 refl,
          (
            never rules 11 refl,
            (never rules 13 refl, (never rules 14 refl, (never rules 15 refl, (never rules 16 refl, tt)))),
          ),
        ),
      ),
    )
