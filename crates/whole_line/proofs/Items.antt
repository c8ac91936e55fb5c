-- One message of the list: it is written, handed out and opened as demand 3 says. Assumes nothing.
use mathlib.Core.Path.{◌≡◌, refl, sym, ap, ap₂, ◌∙◌, subst}
use mathlib.Core.Bool.{true, false}
use mathlib.Core.List.{List, [], ◌∷◌, ◌++◌}
use Prim.Native.Nat.{ℕ, ◌+◌, ◌*◌, ◌≤◌}
use native.Mathlib.Omega.{arith}
use lib.ListN.{length, drop, replicate}
use lib.Seq.{take-length}
use borrow.Author.Tests.{le-ltb}
use Rattle.wire.specs.Rules.{◌when◌, first_broken, among}
use Rattle.wire.specs.Writing.{writer_rules}
use Rattle.wire.proofs.Lookup.{lookup_all}
use Rattle.wire.proofs.Writers.{wrote}
use Rattle.wire.proofs.Rules.{first_right, judge_pass}
use Rattle.frame.specs.Image.{image}
use Rattle.frame.specs.Writer.{bad_frame}
use Rattle.access.specs.declared.Mode.{Mode}
use Rattle.access.specs.declared.Mode.TheVariants.{Normal}
use Rattle.access.specs.declared.Level.TheVariants.{Admin}
use Rattle.message.specs.Table.{Row, table, no_row}
use Rattle.message.specs.Reading.{message_rules, message_at, message_of}
use Rattle.message.specs.declared.Form.TheVariants.{Plain, Encrypted}
use Rattle.units.specs.declared.Seconds.{Seconds}
use Rattle.session.specs.Memory.{remembered, in_front}
use Rattle.session.specs.Session.{session_there, valid_at, session_remembering}
use Rattle.session.specs.Keys.{key_for, key_bytes}
use Rattle.session.specs.declared.Keys.{Keys}
use Rattle.session.specs.declared.Session.{Session}
use Rattle.session.proofs.Kept.{session_nonce, session_there_lem, session_valid, session_remembers}
use Rattle.aes.specs.Ctr.{blocks_for}
use Rattle.envelope.specs.Blocks.{outside, sealer_rules, blocks_in, nonce_number}
use Rattle.envelope.specs.Sealed.{plain_text, late_rules, message_in}
use Rattle.envelope.proofs.Unsealed.{sealed_number, sealed_id, sealed_length, sealed_whole, unsealed, late_plain, message_plain, message_behind, same_sealed}
use Rattle.bridge.specs.Content.{answer_content}
use Rattle.bridge.specs.Opener.{admin_key, session_rules, uart_entry_rules, uart_text, uart_text_rules, accepted_message, session_by, opened, work_after}
use Rattle.bridge.specs.Opening.{refused_answer, session_by_answer, plain_answer, text_answer, text_session, sealed_answer, sealed_session, opened_as, sealed_work, blocks_after}
use Rattle.bridge.proofs.Opening.{plain_passes, plain_session_lem, plain_opened_lem, sealed_opened_lem, sealed_left}
use Rattle.bridge.proofs.Contents.{message_content_lem}
use Rattle.bridge.specs.declared.Context.{Context}
use Rattle.bridge.specs.declared.Opened.{Opened}
use Rattle.whole_line.specs.Listed.{data_type, Item, plain, sealed, Permitted, Sealable, PermittedItem, wrapper_of, wrapped, Sealed, Framed, Occasion, Fit, remembered_after, Differs, during, Opening, Gives}
use Rattle.std.specs.Prelude.{is_some}

-- ---- the writers
inside : (least most n : ℕ) → least ≤ n → n ≤ most → outside least most n ≡ false
inside least most n h k = simp (le-ltb _ _ h, le-ltb _ _ k)

-- the admin key is held in normal mode
key_held : (k : Keys) (m : Mode) → m ≡ Normal → is_some k.admin ≡ true → is_some (key_for k m Admin) ≡ true
key_held k m e h = ap (λ (x : Mode). is_some (key_for k x Admin)) e ∙ h

-- 4 + 16n bytes for at most 490
sealed_fits : (m : List ℕ) → length m ≤ 490 → 4 + 16 * blocks_for (6 + length m) ≤ 507
sealed_fits m h = omega arith

pub one_short : (g : Context) (i : Item) → PermittedItem g i → length (wrapped g i) ≤ 507
one_short g (plain m) ok = ok.long
one_short g (sealed pn m) ok =
    omega (arith, sealed_length (key_bytes (admin_key g)) pn g.session.nonce m ok.1.three, sealed_fits m ok.0.long)

pub one_seals : (g : Context) (i : Item) → PermittedItem g i → Sealed g i
one_seals g (plain m) ok = tt
one_seals g (sealed pn m) ok =
    λ room after answer h w.
    wrote (sealer_rules (admin_key g) (outside 2 490 (length m)) (wrapped g (sealed pn m)) room) (wrapped g (sealed pn m)) room after answer
    (rw (inside 2 490 (length m) ok.0.short ok.0.long, le-ltb (length room) (0 + length (wrapped g (sealed pn m))) (omega arith), key_held g.keys g.mode ok.1.normal ok.1.held))
    w

good_frame : (i : Item) (n : ℕ) → n ≤ 507 → bad_frame (wrapper_of i) n ≡ false
unfolding bad_frame
good_frame (plain m) n h = le-ltb 507 n h
good_frame (sealed pn m) n h = le-ltb 507 n h

pub one_frames : (g : Context) (i : Item) → PermittedItem g i → Framed g i
one_frames g i ok room after answer h w =
    let p = wrapped g i in
    let f = image (wrapper_of i) p in
    wrote (writer_rules (bad_frame (wrapper_of i) (length p)) f room) f room after answer
    (rw (good_frame i (length p) (one_short g i ok), le-ltb (length room) (0 + length f) (omega arith))) w

-- ---- the openings
-- a message that is no session nonce leaves the session
keeps : (g : Context) (m : List ℕ) → (data_type m ≡ 1 → ⊥) → session_by g (message_at m) ≡ g.session
keeps g m h =
    lookup_all (λ (r : Row). r.number) (λ (r : Row). r) no_row (λ r. session_by g (message_of r.body (drop 2 m)) ≡ g.session) table (data_type m)
    (λ e. refl, (λ e. absurd (h e), (λ e. refl, (λ e. refl, (λ e. refl, (λ e. refl, (λ e. refl, refl)))))))

-- the session at a turn: as the one in use, but for what it remembers
pub record AtTurn (g : Context) (s : Session) (ns : List ℕ) : Type 0 where
  pub nonce : s.nonce ≡ g.session.nonce
  pub there : session_there g.session ≡ true → session_there s ≡ true
  pub valid : (t : Seconds) → valid_at s t ≡ valid_at g.session t
  pub remembers : remembered s.memory ≡ ns

pub at_start_lem : (g : Context) → AtTurn g g.session (remembered g.session.memory)
at_start_lem g = record { nonce = refl; there = λ e. e; valid = λ t. refl; remembers = refl }

module _ (g : Context) (s : Session) (t : Seconds) where
  -- the context as an opening finds it
  abbrev here : Context
  here = during g s t

  plain_answer_lem : (m : List ℕ) → Permitted g Plain 507 m → plain_answer here m ≡ accepted_message false 0 m
  plain_answer_lem m ok =
      plain_passes here m ok.short ok.long
      ∙ judge_pass refused_answer (message_rules Plain g.required g.mode m) (accepted_message false 0 m) ok.clear

  plain_opens : (m : List ℕ) (room : ℕ) → Permitted g Plain 507 m → opened here room 1 0 m ≡ opened_as (accepted_message false 0 m) s
  plain_opens m room ok =
      sym (plain_opened_lem here room m)
      ∙ ap₂ opened_as (plain_answer_lem m ok)
      (sym (plain_session_lem here m) ∙ ap (session_by_answer here) (plain_answer_lem m ok) ∙ keeps here m ok.other)

  -- of what is asked before the blocks are deciphered, 28 alone is left
  pub asks : (ns pn m : List ℕ) → AtTurn g s ns → Permitted g Encrypted 490 m → Sealable g pn → valid_at g.session t ≡ true
      → (room : ℕ) → 16 * blocks_in (wrapped g (sealed pn m)) ≤ room
      → first_broken (uart_entry_rules here room (wrapped g (sealed pn m))) ≡ first_broken ((28 when among (nonce_number pn) ns) ∷ [])
  unfolding uart_entry_rules session_rules
  asks ns pn m turn ok may valid room h =
      rw (
        sealed_whole (key_bytes (admin_key g)) pn g.session.nonce m may.three ok.long,
        le-ltb room (16 * blocks_in (wrapped g (sealed pn m))) h,
        sealed_id (key_bytes (admin_key g)) pn g.session.nonce m may.three,
        key_held g.keys g.mode may.normal may.held,
        turn.there may.there,
        turn.valid t ∙ valid,
        sealed_number (key_bytes (admin_key g)) pn g.session.nonce m may.three,
        turn.remembers,
      )

  module _ (ns pn m : List ℕ) (turn : AtTurn g s ns) (ok : Permitted g Encrypted 490 m) (may : Sealable g pn)
      (valid : valid_at g.session t ≡ true) (differs : Differs ns (sealed pn m)) where
    abbrev p : List ℕ
    p = wrapped g (sealed pn m)

    number_is : nonce_number p ≡ nonce_number pn
    number_is = sealed_number (key_bytes (admin_key g)) pn g.session.nonce m may.three

    text_is : uart_text here p ≡ plain_text m
    unfolding uart_text
    text_is = rw turn.nonce (unsealed (key_bytes (admin_key g)) pn g.session.nonce m may.three)

    enters : (room : ℕ) → 16 * blocks_in p ≤ room → first_broken (uart_entry_rules here room p) ≡ 0
    enters room h = asks ns pn m turn ok may valid room h ∙ rw differs

    reads : first_broken (uart_text_rules here (plain_text m)) ≡ 0
    unfolding uart_text_rules
    reads =
        first_right (late_rules (plain_text m)) (message_rules Encrypted g.required g.mode (message_in (plain_text m))) (late_plain m ok.short)
        ∙ ap (λ (l : List ℕ). first_broken (message_rules Encrypted g.required g.mode l)) (message_plain m ok.short) ∙ ok.clear

    sealed_opens : (room : ℕ) → 16 * blocks_in p ≤ room → opened here room 1 128 p ≡ opened_as (accepted_message true 6 m) (session_remembering s (nonce_number p))
    unfolding sealed_answer text_answer sealed_session text_session
    sealed_opens room h =
        sym (sealed_opened_lem here room p)
        ∙ ap₂ opened_as
        (judge_pass refused_answer (uart_entry_rules here room p) (text_answer here (uart_text here p)) (enters room h)
        ∙ ap (text_answer here) text_is
        ∙ judge_pass refused_answer (uart_text_rules here (plain_text m)) (accepted_message true 6 (message_in (plain_text m))) reads
        ∙ ap (accepted_message true 6) (message_plain m ok.short))
        (judge_pass (λ n. s) (uart_entry_rules here room p) (text_session here (nonce_number p) (uart_text here p)) (enters room h)
        ∙ ap (text_session here (nonce_number p)) text_is
        ∙ judge_pass (λ n. s) (late_rules (plain_text m)) (session_remembering s (nonce_number p)) (late_plain m ok.short))

    sealed_work_lem : (work : List ℕ) → 16 * blocks_in p ≤ length work → work_after here 1 128 p work ≡ plain_text m ++ drop (16 * blocks_in p) work
    unfolding sealed_work
    sealed_work_lem work h =
        sym (sealed_left here p work)
        ∙ judge_pass (λ n. work) (uart_entry_rules here (length work) p) (blocks_after (blocks_in p) (uart_text_rules here (uart_text here p)) (uart_text here p) work) (enters (length work) h)
        ∙ ap (λ (l : List ℕ). blocks_after (blocks_in p) (uart_text_rules here l) l work) text_is
        ∙ ap (λ (l : List ℕ). l ++ drop (16 * blocks_in p) work)
        (judge_pass (λ n. replicate (16 * blocks_in p) 0) (uart_text_rules here (plain_text m)) (plain_text m) reads)

    -- the next turn
    sealed_turn : AtTurn g (session_remembering s (nonce_number p)) (remembered_after ns (sealed pn m))
    sealed_turn =
        let e = turn.there may.there in
        record {
          nonce = session_nonce s (nonce_number p) e ∙ turn.nonce;
          there = λ i. session_there_lem s (nonce_number p) e;
          valid = λ x. session_valid s (nonce_number p) e x ∙ turn.valid x;
          remembers = session_remembers s (nonce_number p) e ∙ ap₂ in_front number_is turn.remembers;
        }

-- ---- an opening of an item
-- what comes of it: the answer and the session, and the opening
abbrev pub opened_item : Context → Session → Occasion → Item → Opened
opened_item g s o i = opened (during g s o.time) (length o.work) 1 (wrapper_of i) (wrapped g i)

abbrev opening_of : Context → Session → Occasion → Item → Opening
opening_of g s o i =
    record { frame = wrapped g i; answer = (opened_item g s o i).answer; work = work_after (during g s o.time) 1 (wrapper_of i) (wrapped g i) o.work }

module _ (g : Context) (s : Session) (ns : List ℕ) (turn : AtTurn g s ns) (o : Occasion) where
  pub one_gives : (i : Item) → PermittedItem g i → Fit g o i → Differs ns i → Gives i (opening_of g s o i)
  one_gives (plain m) ok fit d =
      record {
        content =
            ap (λ (r : Opened). answer_content r.answer m (work_after (during g s o.time) 1 0 m o.work)) (plain_opens g s o.time m (length o.work) ok)
            ∙ message_content_lem g Plain false 0 m m _ ok.short ok.clear (take-length m);
      }
  one_gives (sealed pn m) ok fit d =
      let p : List ℕ = wrapped g (sealed pn m) in
      let w : List ℕ = plain_text m ++ drop (16 * blocks_in p) o.work in
      record {
        content =
            ap₂ (λ (r : Opened) (l : List ℕ). answer_content r.answer p l) (sealed_opens g s o.time ns pn m turn ok.0 ok.1 fit.0 d (length o.work) fit.1)
            (sealed_work_lem g s o.time ns pn m turn ok.0 ok.1 fit.0 d o.work fit.1)
            ∙ message_content_lem g Encrypted true 6 m p w ok.0.short ok.0.clear (message_behind m (drop (16 * blocks_in p) o.work));
      }

  pub one_turns : (i : Item) → PermittedItem g i → Fit g o i → Differs ns i → AtTurn g (opened_item g s o i).session (remembered_after ns i)
  one_turns (plain m) ok fit d =
      subst (λ (r : Opened). AtTurn g r.session ns) (sym (plain_opens g s o.time m (length o.work) ok)) turn
  one_turns (sealed pn m) ok fit d =
      subst (λ (r : Opened). AtTurn g r.session (remembered_after ns (sealed pn m)))
      (sym (sealed_opens g s o.time ns pn m turn ok.0 ok.1 fit.0 d (length o.work) fit.1))
      (sealed_turn g s o.time ns pn m turn ok.0 ok.1 fit.0 d)

-- ---- equal wrapper types and payloads come of equal items
pub one_same : (g : Context) (i j : Item) → PermittedItem g i → PermittedItem g j → wrapper_of i ≡ wrapper_of j → wrapped g i ≡ wrapped g j → i ≡ j
one_same g (plain m) (plain m') a b w p = ap plain p
one_same g (plain m) (sealed pn' m') a b w p = absurd (omega arith)
one_same g (sealed pn m) (plain m') a b w p = absurd (omega arith)
one_same g (sealed pn m) (sealed pn' m') a b w p =
    let s = same_sealed (key_bytes (admin_key g)) g.session.nonce a.1.three b.1.three p in
    ap₂ sealed s.0 s.1
