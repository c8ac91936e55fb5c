-- An opener that judges, runs a cipher and settles: what each of its answers promises, whatever the cipher. Assumes nothing.
use mathlib.Core.Path.{◌≡◌, refl, sym, ap, ap₂, ◌∙◌}
use mathlib.Core.Bool.{Bool, true, false, not, ◌||◌}
use mathlib.Core.List.{List, [], ◌∷◌, ◌++◌, append_assoc, append-nil}
use Prim.Native.Nat.{ℕ, ◌+◌, ◌*◌, ◌≤◌}
use native.Mathlib.Omega.{arith}
use lib.ListN.{length, get_or, drop}
use lib.Dec.{eqb}
use borrow.Author.Tests.{eqb-true, ne_eqb, not-false}
use Rattle.wire.specs.Choice.{pick}
use Rattle.wire.specs.Rules.{Rule, ◌when◌, first_broken, judge}
use Rattle.wire.proofs.Rules.{first_none, none_append}
use Rattle.wire.specs.Writing.{Stores, no_room}
use Rattle.wire.proofs.Writing.{stores_same}
use Rattle.std.specs.Prelude.{Result, Err}
use Rattle.wire.specs.Refusals.{checked_by}
use Rattle.wire.proofs.Listed.{judged_err}
use Rattle.bridge.specs.Reply.{uart_refused, characteristic_refused}
use Rattle.wire.specs.declared.refusals.Refusal.{Refusal}
use Rattle.aes.specs.Ctr.{ctr_of}
use Rattle.message.specs.Reading.{message_at}
use Rattle.session.specs.Keys.{key_bytes}
use Rattle.session.specs.Session.{session_remembering}
use Rattle.envelope.specs.Blocks.{blocks_in, deciphered, nonce_bytes, nonce_number}
use Rattle.envelope.specs.Sealed.{late_rules, message_in}
use Rattle.envelope.proofs.Envelopes.{deciphered_as}
use Rattle.bridge.specs.Opener.{head_rules, plain_rules, admin_key, uart_entry_rules, uart_text, uart_text_rules, uart_pass_rules, uart_open_rules, accepted_message, answer_of, session_by, session_after, opened, work_after, OpensFrame}
use Rattle.bridge.specs.Characteristic.{level_key, packet_entry_rules, packet_text, OpensPacket}
use Rattle.bridge.specs.Opening.{refused_answer, frame_entry_rules, opened_as, plain_opened, text_opened, blocks_after, text_in, work_by, refused_command, opened_command_as, command_text_opened}
use Rattle.bridge.proofs.Judging.{first_stop, judge_stop, blocks_stored, blocks_part}
use Rattle.bridge.proofs.Opening.{whole, long, answered_after, sealed_opened_lem, sealed_left, plain_opened_lem, plain_left}
use Rattle.bridge.proofs.Commands.{whole as packet_fits, long as packet-text-long, answered_after as command-after, refused_before}
use Rattle.bridge.proofs.Contents.{opens_frame, opens_packet}
use Rattle.bridge.specs.declared.Context.{Context}
use Rattle.bridge.specs.declared.Link.{Link}
use Rattle.bridge.specs.declared.Opened.{Opened}
use Rattle.bridge.specs.declared.OpenedCommand.{OpenedCommand}

-- the blocks as a cipher left them in the work buffer, by the names of what it was given
left_deciphered : (key sn p work : List ℕ) {key' pn blocks middle : List ℕ} {answer : Result ℕ Refusal} → length p ≡ 4 + 16 * blocks_in p
    → length (deciphered key sn p) ≡ 16 * blocks_in p → 16 * blocks_in p ≤ length work → key' ≡ key → pn ≡ nonce_bytes p → blocks ≡ drop 4 p
    → Stores (no_room 0 (ctr_of key' pn sn blocks) work ∷ []) 0 (ctr_of key' pn sn blocks) work answer middle
    → middle ≡ deciphered key sn p ++ drop (16 * blocks_in p) work
left_deciphered key sn p work whole long fits ek en eb w =
    blocks_stored (blocks_in p) (deciphered key sn p) work long
    (stores_same 0 ((λ i. ctr_of (ek i) (en i) sn (eb i)) ∙ deciphered_as key sn p (omega arith)) w) fits

-- ---- a frame
module _ (g : Context) (major wrapper : ℕ) (p work : List ℕ) where
  abbrev entry : List Rule
  entry = uart_entry_rules g (length work) p

  -- refused before the cipher runs
  module _ {n : ℕ} (h : n ≡ 0 → ⊥) where
    stopped {ℓ} : {A : Type ℓ} (refuse : ℕ → A) (xs ys : List Rule) (good : A) → n ≡ first_broken xs → judge refuse (xs ++ ys) good ≡ refuse n
    stopped refuse xs ys good e = judge_stop refuse (xs ++ ys) good n (first_stop xs ys e h) h

    behind {ℓ} : {A : Type ℓ} (refuse : ℕ → A) (ys : List Rule) (good : A) → n ≡ first_broken (head_rules major wrapper ++ entry)
        → judge refuse (head_rules major wrapper ++ (entry ++ ys)) good ≡ refuse n
    behind refuse ys good e =
        ap (λ (rs : List Rule). judge refuse rs good) (sym (append_assoc (head_rules major wrapper) entry ys))
        ∙ stopped refuse (head_rules major wrapper ++ entry) ys good e

    by_wrapper : (b : Bool) → n ≡ first_broken (head_rules major wrapper ++ pick b entry [])
        → (refused_answer n ≡ judge refused_answer (head_rules major wrapper ++ pick b (entry ++ uart_text_rules g (uart_text g p)) (plain_rules g p))
        (pick b (accepted_message true 6 (message_in (uart_text g p))) (accepted_message false 0 p)))
        × (g.session ≡ pick b
        (judge (λ n. g.session) (head_rules major wrapper ++ (entry ++ late_rules (uart_text g p))) (session_remembering g.session (nonce_number p)))
        (judge (λ n. g.session) (head_rules major wrapper ++ plain_rules g p) (session_by g (message_at p))))
        × (work ≡ pick b
        (judge (λ n. work) (head_rules major wrapper ++ entry) (blocks_after (blocks_in p) (uart_text_rules g (uart_text g p)) (uart_text g p) work)) work)
    by_wrapper true e = (
      sym (behind refused_answer (uart_text_rules g (uart_text g p)) (accepted_message true 6 (message_in (uart_text g p))) e),
      sym (behind (λ n. g.session) (late_rules (uart_text g p)) (session_remembering g.session (nonce_number p)) e),
      sym (judge_stop (λ n. work) (head_rules major wrapper ++ entry) (blocks_after (blocks_in p) (uart_text_rules g (uart_text g p)) (uart_text g p) work) n e h),
    )
    by_wrapper false e =
        let e' : n ≡ first_broken (head_rules major wrapper) = e ∙ ap first_broken (append-nil (head_rules major wrapper)) in (
          sym (stopped refused_answer (head_rules major wrapper) (plain_rules g p) (accepted_message false 0 p) e'),
          sym (stopped (λ n. g.session) (head_rules major wrapper) (plain_rules g p) (session_by g (message_at p)) e'),
          refl,
        )

    pub frame_refused : {r : Opened} → n ≡ first_broken (frame_entry_rules g (length work) major wrapper p) → r ≡ opened_as (refused_answer n) g.session
        → OpensFrame g major wrapper p work r work
    unfolding frame_entry_rules opened answer_of uart_open_rules session_after uart_pass_rules work_after
    frame_refused e q =
        let x = by_wrapper (eqb wrapper 128) e in
        opens_frame g major wrapper p work (q ∙ ap₂ opened_as x.0 x.1) x.2

  -- the same, by what `judge` answers
  pub frame_judged : {e : Refusal} {r : Opened} → Err e ≡ checked_by (frame_entry_rules g (length work) major wrapper p)
      → r ≡ opened_as (Err (uart_refused e)) g.session → OpensFrame g major wrapper p work r work
  frame_judged q o =
      let j = judged_err (frame_entry_rules g (length work) major wrapper p) tt q in
      frame_refused (λ z. absurd (omega arith)) j.1 (o ∙ ap (λ (x : Refusal). opened_as (Err (uart_refused x)) g.session) (sym j.2))

  -- where no rule before the cipher is broken
  module _ (entered : first_broken (frame_entry_rules g (length work) major wrapper p) ≡ 0) where
    head_holds : (not (eqb major 1) ≡ false) × (not (eqb wrapper 0 || eqb wrapper 128) ≡ false)
    unfolding frame_entry_rules
    head_holds =
        let a = (none_append (head_rules major wrapper) (pick (eqb wrapper 128) entry []) entered).0 in
        let b = first_none 4 (not (eqb major 1)) ((6 when not (eqb wrapper 0 || eqb wrapper 128)) ∷ []) a in
        (b.0, (first_none 5 (not (eqb wrapper 0 || eqb wrapper 128)) [] b.1).0)

    major_is : major ≡ 1
    major_is = eqb-true _ _ (not-false _ head_holds.0)

    pub frame_plain : {r : Opened} → wrapper ≡ 0 → r ≡ plain_opened g p → OpensFrame g major wrapper p work r work
    frame_plain e q = rw (major_is, e) (opens_frame g 1 0 p work (q ∙ plain_opened_lem g (length work) p) (plain_left g p work))

    wrapper_is : (wrapper ≡ 0 → ⊥) → wrapper ≡ 128
    wrapper_is h = eqb-true _ _ (not-false _ (rw (ne_eqb wrapper 0 h) at head_holds.1))

    entry_holds : wrapper ≡ 128 → first_broken entry ≡ 0
    unfolding frame_entry_rules
    entry_holds e = (none_append (head_rules major 128) entry (rw e at entered)).1

    pub frame_sealed : {r : Opened} {key pn blocks middle after : List ℕ} {answer : Result ℕ Refusal} → (wrapper ≡ 0 → ⊥)
        → key ≡ key_bytes (admin_key g) → pn ≡ nonce_bytes p → blocks ≡ drop 4 p
        → Stores (no_room 0 (ctr_of key pn g.session.nonce blocks) work ∷ []) 0 (ctr_of key pn g.session.nonce blocks) work answer middle
        → (r ≡ text_opened g (nonce_number p) (text_in p middle)) × (after ≡ work_by (16 * blocks_in p) middle r.answer)
        → OpensFrame g major wrapper p work r after
    unfolding uart_text
    frame_sealed h ek en eb w s =
        let e = entry_holds (wrapper_is h) in
        let fits = whole g p work e in
        let d = left_deciphered (key_bytes (admin_key g)) g.session.nonce p work fits.0 (long g p work e) fits.1 ek en eb w in
        let x = answered_after g p work e (s.0 ∙ ap (text_opened g (nonce_number p)) (blocks_part (blocks_in p) (uart_text g p) work (long g p work e) d refl)) d refl s.1 in
        rw (major_is, wrapper_is h) (opens_frame g 1 128 p work (x.0 ∙ sealed_opened_lem g (length work) p) (x.1 ∙ sealed_left g p work))

-- ---- a packet
module _ (k : Link) (p work : List ℕ) where
  pub packet_refused : {n : ℕ} {r : OpenedCommand} → n ≡ first_broken (packet_entry_rules k (length work) p) → (n ≡ 0 → ⊥)
      → r ≡ opened_command_as (refused_command n) k.connection → OpensPacket k p work r work
  packet_refused e h q = let x = refused_before k p work e h in opens_packet k p work (q ∙ x.0) x.1

  -- the same, by what `judge` answers
  pub packet_judged : {e : Refusal} {r : OpenedCommand} → Err e ≡ checked_by (packet_entry_rules k (length work) p)
      → r ≡ opened_command_as (Err (characteristic_refused e)) k.connection → OpensPacket k p work r work
  packet_judged q o =
      let j = judged_err (packet_entry_rules k (length work) p) tt q in
      packet_refused j.1 (λ z. absurd (omega arith)) (o ∙ ap (λ (x : Refusal). opened_command_as (Err (characteristic_refused x)) k.connection) (sym j.2))

  pub packet_opened : {r : OpenedCommand} {key pn blocks middle after : List ℕ} {answer : Result ℕ Refusal} → first_broken (packet_entry_rules k (length work) p) ≡ 0
      → key ≡ key_bytes (level_key k p) → pn ≡ nonce_bytes p → blocks ≡ drop 4 p
      → Stores (no_room 0 (ctr_of key pn k.connection.nonce blocks) work ∷ []) 0 (ctr_of key pn k.connection.nonce blocks) work answer middle
      → (r ≡ command_text_opened k (get_or p 3 0) (nonce_number p) (text_in p middle)) × (after ≡ work_by (16 * blocks_in p) middle r.answer)
      → OpensPacket k p work r after
  unfolding packet_text
  packet_opened e ek en eb w s =
      let fits = packet_fits k p work e in
      let l = packet-text-long k p work e in
      let d = left_deciphered (key_bytes (level_key k p)) k.connection.nonce p work fits.0 l fits.1 ek en eb w in
      let x = command-after k p work e (s.0 ∙ ap (command_text_opened k (get_or p 3 0) (nonce_number p)) (blocks_part (blocks_in p) (packet_text k p) work l d refl)) d refl s.1 in
      opens_packet k p work x.0 x.1
