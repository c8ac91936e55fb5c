-- The opener's parts put together. Assumes nothing.
use mathlib.Core.Path.{◌≡◌, refl, sym, ap, ap₂, ◌∙◌}
use mathlib.Core.Bool.{Bool, true, false, ◌||◌}
use mathlib.Core.List.{List, ◌∷◌, ◌++◌}
use Prim.Native.Nat.{ℕ, zero, suc, ◌+◌, ◌-◌, ◌*◌, ◌≤◌}
use native.Mathlib.Omega.{arith}
use lib.ListN.{length, drop}
use lib.Dec.{eqb, ltb}
use borrow.Author.Tests.{le-ltb, ne_eqb}
use Rattle.wire.specs.Rules.{◌when◌, first_broken, verdict, judge}
use Rattle.wire.proofs.Rules.{verdict_map, judge_append, judge_pass, judge_map}
use Rattle.wire.specs.Choice.{pick}
use Rattle.message.specs.Message.{parts_at}
use Rattle.message.specs.Reading.{message_rules, message_at, read_message}
use Rattle.message.specs.declared.Form.{Form}
use Rattle.message.specs.declared.Form.TheVariants.{Plain}
use Rattle.message.specs.declared.Message.{Message}
use Rattle.message.specs.declared.Message.TheVariants.{Hello, SessionNonce, Heartbeat, Status, GetMac, Control, HubReply}
use Rattle.session.specs.Session.{session_remembering}
use Rattle.envelope.specs.Blocks.{blocks_in, nonce_number, cleared}
use Rattle.envelope.specs.Sealed.{late_rules, message_in}
use Rattle.envelope.proofs.Envelopes.{length_deciphered}
use Rattle.bridge.specs.Opener.{plain_rules, accepted_message, session_rules, uart_entry_rules, uart_text, uart_text_rules, head_rules, uart_pass_rules, uart_open_rules, answer_of, session_by, session_after, opened, work_after, admin_key}
use Rattle.std.specs.Prelude.{Ok, Err}
use Rattle.wire.specs.Refusals.{refusing}
use Rattle.session.specs.Keys.{key_bytes}
use Rattle.bridge.specs.Content.{Answer}
use Rattle.bridge.specs.Opening.{refused_answer, answer_by, session_by_answer, plain_answer, plain_session, text_answer, text_session, sealed_answer, sealed_session, opened_as, plain_opened, text_opened, sealed_opened, sealed_work, blocks_after, work_by}
use Rattle.bridge.proofs.Judging.{judge_stop, blocks_whole, stopped_before, accepted_behind, refused_behind}
use Rattle.bridge.specs.declared.Context.{Context}
use Rattle.bridge.specs.declared.Opened.{Opened}
use Rattle.bridge.specs.declared.Place.{Place}
use Rattle.bridge.specs.declared.Refused.{Refused}

-- a message's parts count from its data, or from behind a command's five bytes
pub parts_at_most : (m : Message) → parts_at m ≤ 5
parts_at_most (Hello flags) = omega arith
parts_at_most (SessionNonce f) = omega arith
parts_at_most (Heartbeat t) = omega arith
parts_at_most (Status f) = omega arith
parts_at_most GetMac = omega arith
parts_at_most (Control c) = omega arith
parts_at_most (HubReply f) = omega arith

-- the answer by what a message was read as is its rules judged
pub answer_read : (inWork : Bool) (start end : ℕ) (m : List ℕ) (f : Form) (g : Context) → end ≡ start + length m
    → answer_by inWork start end (read_message m f g.required g.mode)
    ≡ judge refused_answer (message_rules f g.required g.mode m) (accepted_message inWork start m)
answer_read inWork start end m f g e =
    rw e
    (verdict_map (answer_by inWork start (start + length m)) refusing (first_broken (message_rules f g.required g.mode m)) (Ok (message_at m)))

-- a plain message of 2 to 507 bytes
pub plain_passes : (g : Context) (p : List ℕ) → 2 ≤ length p → length p ≤ 507
    → plain_answer g p ≡ judge refused_answer (message_rules Plain g.required g.mode p) (accepted_message false 0 p)
unfolding plain_answer plain_rules
plain_passes g p h k =
    let e : (ltb (length p) 2 || ltb 507 (length p)) ≡ false = rw (le-ltb (length p) 2 h) (le-ltb 507 (length p) k) in
    ap (λ (b : Bool). judge refused_answer ((7 when b) ∷ message_rules Plain g.required g.mode p) (accepted_message false 0 p)) e

-- ---- an encrypted message, by what its text was read as
none_broken : (n : ℕ) (l : List ℕ) {a : Message × Place} → Ok a ≡ verdict refused_answer n (accepted_message true 6 l) → n ≡ 0
none_broken zero l e = refl
none_broken (suc n) l e = absurd (let z : ◌≡◌ {A = ℕ} 0 1 = cc in omega arith)

some_broken : (n : ℕ) (l : List ℕ) {r : Refused} → Err r ≡ verdict refused_answer n (accepted_message true 6 l) → n ≡ 0 → ⊥
some_broken zero l e z = let y : ◌≡◌ {A = ℕ} 0 1 = cc in omega arith
some_broken (suc n) l e z = omega arith

module _ (g : Context) (p work : List ℕ) (entered : first_broken (uart_entry_rules g (length work) p) ≡ 0) where
  pub whole : (length p ≡ 4 + 16 * blocks_in p) × (16 * blocks_in p ≤ length work)
  unfolding uart_entry_rules
  whole = blocks_whole p (length work) (session_rules g p) entered

  pub long : length (uart_text g p) ≡ 16 * blocks_in p
  unfolding uart_text
  long = length_deciphered (key_bytes (admin_key g)) g.session.nonce p ∙ (let e : length p - 4 ≡ 16 * blocks_in p = omega (arith, whole.0) in e)

  accepted_after : {a : Message × Place} {after : List ℕ} → Ok a ≡ text_answer g (uart_text g p)
      → after ≡ uart_text g p ++ drop (16 * blocks_in p) work → (Ok a ≡ sealed_answer g (length work) p) × (after ≡ sealed_work g p work)
  unfolding text_answer sealed_answer sealed_work
  accepted_after e w =
      let t = uart_text g p in
      accepted_behind refused_answer (accepted_message true 6 (message_in t)) (uart_entry_rules g (length work) p) (uart_text_rules g t) (blocks_in p) t work long entered e
      (none_broken (first_broken (uart_text_rules g t)) (message_in t) e) w

  refused_after : {r : Refused} {before after : List ℕ} {k : ℕ} → Err r ≡ text_answer g (uart_text g p)
      → before ≡ uart_text g p ++ drop (16 * blocks_in p) work → k ≡ 16 * blocks_in p → after ≡ cleared k before
      → (Err r ≡ sealed_answer g (length work) p) × (after ≡ sealed_work g p work)
  unfolding text_answer sealed_answer sealed_work
  refused_after e w q c =
      let t = uart_text g p in
      refused_behind refused_answer (accepted_message true 6 (message_in t)) (uart_entry_rules g (length work) p) (uart_text_rules g t) (blocks_in p) t work long entered e
      (some_broken (first_broken (uart_text_rules g t)) (message_in t) e) w q c

  left_after : (a : Answer) {before after : List ℕ} {k : ℕ} → a ≡ text_answer g (uart_text g p)
      → before ≡ uart_text g p ++ drop (16 * blocks_in p) work → k ≡ 16 * blocks_in p → after ≡ work_by k before a
      → (a ≡ sealed_answer g (length work) p) × (after ≡ sealed_work g p work)
  left_after (Ok a) e w q c = accepted_after e (c ∙ w)
  left_after (Err r) e w q c = refused_after e w q c

  -- either, by the answer; and the session
  pub answered_after : {r : Opened} {before after : List ℕ} {k : ℕ} → r ≡ text_opened g (nonce_number p) (uart_text g p)
      → before ≡ uart_text g p ++ drop (16 * blocks_in p) work → k ≡ 16 * blocks_in p → after ≡ work_by k before r.answer
      → (r ≡ sealed_opened g (length work) p) × (after ≡ sealed_work g p work)
  unfolding sealed_answer sealed_session
  answered_after {r} e w q c =
      let entry = uart_entry_rules g (length work) p in
      let t = uart_text g p in (
        e ∙ ap₂ opened_as (sym (judge_pass refused_answer entry (text_answer g t) entered)) (sym (judge_pass (λ n. g.session) entry (text_session g (nonce_number p) t) entered)),
        (left_after r.answer (ap (λ (x : Opened). x.answer) e) w q c).1,
      )

-- refused before it is deciphered
pub refused_before : (g : Context) (p work : List ℕ) (n : ℕ) → n ≡ first_broken (uart_entry_rules g (length work) p) → (n ≡ 0 → ⊥)
    → (opened_as (refused_answer n) g.session ≡ sealed_opened g (length work) p) × (work ≡ sealed_work g p work)
unfolding text_answer sealed_answer sealed_session sealed_work
refused_before g p work n e h =
    let entry = uart_entry_rules g (length work) p in
    let t = uart_text g p in
    let s = stopped_before refused_answer (accepted_message true 6 (message_in t)) entry (uart_text_rules g t) (blocks_in p) t work e h in
    (ap₂ opened_as s.0 (sym (judge_stop (λ n. g.session) entry (text_session g (nonce_number p) t) n e h)), s.1)

-- the session after a plain message, by its answer
pub plain_session_lem : (g : Context) (p : List ℕ) → session_by_answer g (plain_answer g p) ≡ plain_session g p
unfolding plain_answer plain_session
plain_session_lem g p =
    judge_map (session_by_answer g) refused_answer (λ n. g.session) (plain_rules g p) (accepted_message false 0 p) (session_by g (message_at p)) (λ n. refl) (λ e. refl)

-- ---- a frame
module _ (g : Context) (room : ℕ) (p : List ℕ) where
  pub sealed_frame : sealed_answer g room p ≡ answer_of g room 1 128 p
  unfolding sealed_answer text_answer answer_of uart_open_rules
  sealed_frame = sym (judge_append refused_answer (uart_entry_rules g room p) (uart_text_rules g (uart_text g p)) (accepted_message true 6 (message_in (uart_text g p))))

  pub plain_frame : plain_answer g p ≡ answer_of g room 1 0 p
  unfolding plain_answer answer_of uart_open_rules
  plain_frame = refl

  pub sealed_opened_lem : sealed_opened g room p ≡ opened g room 1 128 p
  unfolding opened sealed_session text_session session_after uart_pass_rules
  sealed_opened_lem =
      ap₂ opened_as sealed_frame
      (sym (judge_append (λ n. g.session) (uart_entry_rules g room p) (late_rules (uart_text g p)) (session_remembering g.session (nonce_number p))))

  pub plain_opened_lem : plain_opened g p ≡ opened g room 1 0 p
  unfolding opened plain_session session_after
  plain_opened_lem = ap₂ opened_as plain_frame refl

pub sealed_left : (g : Context) (p work : List ℕ) → sealed_work g p work ≡ work_after g 1 128 p work
unfolding sealed_work work_after
sealed_left g p work = refl

pub plain_left : (g : Context) (p work : List ℕ) → work ≡ work_after g 1 0 p work
unfolding work_after
plain_left g p work = refl

-- 5, and 6
pub wrong_major : (g : Context) (room major wrapper : ℕ) (p work : List ℕ) → (major ≡ 1 → ⊥)
    → (opened_as (refused_answer 5) g.session ≡ opened g room major wrapper p) × (work ≡ work_after g major wrapper p work)
unfolding opened answer_of uart_open_rules session_after uart_pass_rules work_after
wrong_major g room major wrapper p work h = (ap₂ opened_as (simp (ne_eqb _ _ h)) (same_session (eqb wrapper 128)), same_work (eqb wrapper 128))
  where
    same_session : (b : Bool) → g.session ≡ pick b
        (judge (λ n. g.session) (uart_pass_rules g room major wrapper p) (session_remembering g.session (nonce_number p)))
        (judge (λ n. g.session) (head_rules major wrapper ++ plain_rules g p) (session_by g (message_at p)))
    same_session true = simp (ne_eqb _ _ h)
    same_session false = simp (ne_eqb _ _ h)

    same_work : (b : Bool) → work ≡ pick b
        (judge (λ n. work) (head_rules major wrapper ++ uart_entry_rules g (length work) p) (blocks_after (blocks_in p) (uart_text_rules g (uart_text g p)) (uart_text g p) work)) work
    same_work true = simp (ne_eqb _ _ h)
    same_work false = refl

pub wrong_wrapper : (g : Context) (room wrapper : ℕ) (p work : List ℕ) → (wrapper ≡ 128 → ⊥) → (wrapper ≡ 0 → ⊥)
    → (opened_as (refused_answer 6) g.session ≡ opened g room 1 wrapper p) × (work ≡ work_after g 1 wrapper p work)
unfolding opened answer_of uart_open_rules session_after uart_pass_rules work_after
wrong_wrapper g room wrapper p work h k =
    (ap₂ opened_as (simp (ne_eqb _ _ k, ne_eqb _ _ h)) (simp (ne_eqb _ _ k, ne_eqb _ _ h)), simp (ne_eqb _ _ h))
