-- What stays remembered over several calls: a packet nonce moves back by one place at each other message that passes. Assumes nothing.
use mathlib.Core.Path.{◌≡◌, refl, ap, ◌∙◌}
use mathlib.Core.Bool.{Bool, true, false, ◌&&◌}
use mathlib.Core.List.{List, [], ◌∷◌, ◌++◌}
use Prim.Native.Nat.{ℕ, zero, suc, ◌+◌, ◌<◌}
use native.Mathlib.Omega.{arith}
use lib.ListN.{take}
use lib.Dec.{eqb}
use borrow.Author.Tests.{ne_eqb}
use Rattle.wire.specs.Choice.{pick}
use Rattle.wire.specs.Rules.{Rule, first_broken, among, verdict, judge}
use Rattle.wire.proofs.Held.{held}
use Rattle.message.specs.Reading.{message_at}
use Rattle.message.specs.declared.Message.{Message}
use Rattle.message.specs.declared.Message.TheVariants.{Hello, SessionNonce, Heartbeat, Status, GetMac, Control, HubReply}
use Rattle.session.specs.Memory.{remembered, in_front}
use Rattle.session.specs.Session.{memory_after, session_there, session_remembering, connection_there, with_data, connection_remembering}
use Rattle.session.specs.declared.Connection.{Connection}
use Rattle.session.specs.declared.NonceMemory.{NonceMemory}
use Rattle.session.specs.declared.Session.{Session}
use Rattle.session.proofs.Remembered.{first_of, one_behind}
use Rattle.session.proofs.Kept.{session_there_lem, session_remembers, nonce_there, connection_there_lem, connection_remembers, data_there, memory_kept}
use Rattle.envelope.specs.Blocks.{nonce_number}
use Rattle.session_data.specs.SessionData.{data_key, text_of, nonce_in, validation_in, data_read_rules, data_read}
use Rattle.bridge.specs.Opener.{head_rules, plain_rules, uart_pass_rules, session_by, session_after, opened}
use Rattle.bridge.specs.Characteristic.{packet_pass_rules, connection_after, characteristic_opened}
use Rattle.bridge.specs.declared.Context.{Context}
use Rattle.bridge_laws.specs.Replay.{after, passed_in, NonceStays, FrameCall, context_for, frame_step, frame_passes, link_for, ConnectionCall, opens, reads, connection_step, connection_passes}

-- ---- several calls
module _ {S C : Type 0} (step : S → C → S) (passing : S → C → Bool) (nonce : S → List ℕ) (Holds : S → ℕ → Type 0)
    (one : (s : S) (c : C) (j : ℕ) → Holds s j → nonce (step s c) ≡ nonce s → pick (passing s c) (suc j) j < 8 → Holds (step s c) (pick (passing s c) (suc j) j))
  where
    abbrev count : S → List C → ℕ
    count s cs = passed_in step passing s cs

    turn : (b : Bool) (j r : ℕ) → pick b (suc r) r + j < 8 → (pick b (suc j) j < 8) × (r + pick b (suc j) j < 8)
    turn true j r h = (omega arith, omega arith)
    turn false j r h = (omega arith, omega arith)

    -- among the first j + 1 places before some calls, it is after them among as many more as messages passed
    pub still : (cs : List C) (s : S) (j : ℕ) → Holds s j → NonceStays step nonce s cs → count s cs + j < 8 → {E : Type 0} → ((t : S) (i : ℕ) → Holds t i → t ≡ after step s cs → E) → E
    still [] s j h stays k f = f s j h refl
    still (c ∷ cs) s j h stays k f =
        let t = turn (passing s c) j (count (step s c) cs) k in
        still cs (step s c) (pick (passing s c) (suc j) j) (one s c j h stays.0 t.0) stays.1 t.1 f

-- a call that may remember, by its first broken rule
by_passing : {S : Type 0} (Holds : S → ℕ → Type 0) (k : ℕ) (s t : S) (j : ℕ) → Holds s j → (suc j < 8 → Holds t (suc j)) → pick (eqb k 0) (suc j) j < 8
    → Holds (verdict (λ i. s) k t) (pick (eqb k 0) (suc j) j)
by_passing Holds zero s t j h f l = f l
by_passing Holds (suc k) s t j h f l = rw (ne_eqb (suc k) 0 (λ e. omega arith)) h

-- a call that may take a session nonce
by_verdict : {S : Type 0} (H : S → Type 0) (nonce : S → List ℕ) (k : ℕ) (s t : S) → H s → (nonce t ≡ nonce s → H t)
    → nonce (verdict (λ i. s) k t) ≡ nonce s → H (verdict (λ i. s) k t)
by_verdict H nonce zero s t h f q = f q
by_verdict H nonce (suc k) s t h f q = h

-- ---- a packet nonce n among the first j + 1 of those remembered
module _ (n : ℕ) where
  pub record Holds (there : Bool) (m : NonceMemory) (j : ℕ) : Type 0 where
    pub there_is : there ≡ true
    pub within : among n (take (suc j) (remembered m)) ≡ true

  other_remembered : {there there' : Bool} {m m' : NonceMemory} (j x : ℕ) → Holds there m j → there' ≡ true → remembered m' ≡ in_front x (remembered m) → suc j < 8
      → Holds there' m' (suc j)
  other_remembered {m} j x h e r k =
      record { there_is = e; within = ap (λ (l : List ℕ). among n (take (suc (suc j)) l)) r ∙ one_behind n x j (remembered m) k h.within }

  pub it_remembered : {there : Bool} {m' : NonceMemory} (m : NonceMemory) → there ≡ true → remembered m' ≡ in_front n (remembered m) → Holds there m' 0
  it_remembered m e r = record { there_is = e; within = ap (λ (l : List ℕ). among n (take 1 l)) r ∙ first_of n (remembered m) }

  nonce_renewed : {there' : Bool} (there : Bool) (held : List ℕ) (m : NonceMemory) (nonce : List ℕ) (j : ℕ) → Holds there m j → there' ≡ true → nonce ≡ held
      → Holds there' (memory_after there held m nonce) j
  nonce_renewed there held m nonce j h e q =
      record {
        there_is = e;
        within =
            ap (λ (b : Bool). among n (take (suc j) (remembered (memory_after b held m nonce)))) h.there_is
            ∙ ap (λ (x : NonceMemory). among n (take (suc j) (remembered x))) (memory_kept held m nonce q) ∙ h.within;
      }

  -- ---- frames
  abbrev pub SessionHolds : Session → ℕ → Type 0
  SessionHolds s j = Holds (session_there s) s.memory j

  by_message : (g : Context) (j : ℕ) → SessionHolds g.session j → (m : Message) → (session_by g m).nonce ≡ g.session.nonce → SessionHolds (session_by g m) j
  by_message g j h (Hello flags) q = h
  by_message g j h (SessionNonce f) q =
      nonce_renewed (session_there g.session) g.session.nonce g.session.memory (session_by g (SessionNonce f)).nonce j h
      (nonce_there g.session (session_by g (SessionNonce f)).nonce f.timeout g.time) q
  by_message g j h (Heartbeat t) q = h
  by_message g j h (Status f) q = h
  by_message g j h GetMac q = h
  by_message g j h (Control c) q = h
  by_message g j h (HubReply f) q = h

  module _ (s : Session) (c : FrameCall) where
    abbrev g : Context
    g = context_for s c

    abbrev p : List ℕ
    p = c.payload

    abbrev pub rules : List Rule
    rules = uart_pass_rules g c.room c.major c.wrapper p

    abbrev plain : List Rule
    plain = head_rules c.major c.wrapper ++ plain_rules g p

    abbrev pub session_with : Bool → Session
    session_with w = pick w (judge (λ i. s) rules (session_remembering s (nonce_number p))) (judge (λ i. s) plain (session_by g (message_at p)))

    by_form : (j : ℕ) → SessionHolds s j → (w : Bool) → (session_with w).nonce ≡ s.nonce → pick (w && eqb (first_broken rules) 0) (suc j) j < 8
        → SessionHolds (session_with w) (pick (w && eqb (first_broken rules) 0) (suc j) j)
    by_form j h true q l =
        let x : ℕ = nonce_number p in
        by_passing SessionHolds (first_broken rules) s (session_remembering s x) j h
        (λ k. other_remembered j x h (session_there_lem s x h.there_is) (session_remembers s x h.there_is) k) l
    by_form j h false q l =
        by_verdict (λ t. SessionHolds t j) (λ (t : Session). t.nonce) (first_broken plain) s (session_by g (message_at p)) h (by_message g j h (message_at p)) q

    pub frame_step_lem : (j : ℕ) → SessionHolds s j → (frame_step s c).nonce ≡ s.nonce → pick (frame_passes s c) (suc j) j < 8
        → SessionHolds (frame_step s c) (pick (frame_passes s c) (suc j) j)
    unfolding opened session_after
    frame_step_lem j h q l = by_form j h (eqb c.wrapper 128) q l

  -- ---- characteristic packets
  abbrev pub ConnectionHolds : Connection → ℕ → Type 0
  ConnectionHolds c j = Holds (connection_there c) c.memory j

  pub connection_step_lem : (c : Connection) (call : ConnectionCall) (j : ℕ) → ConnectionHolds c j → (connection_step c call).nonce ≡ c.nonce
      → pick (connection_passes c call) (suc j) j < 8 → ConnectionHolds (connection_step c call) (pick (connection_passes c call) (suc j) j)
  unfolding characteristic_opened connection_after data_read
  connection_step_lem c (opens q) j h e l =
      let x : ℕ = nonce_number q.packet in
      by_passing ConnectionHolds (first_broken (packet_pass_rules (link_for c q) q.room q.packet)) c (connection_remembering c x) j h
      (λ i. other_remembered j x h (connection_there_lem c x h.there_is) (connection_remembers c x h.there_is) i) l
  connection_step_lem c (reads keys mode block) j h e l =
      let text : List ℕ = text_of (data_key keys mode) block in
      by_verdict (λ d. ConnectionHolds d j) (λ (d : Connection). d.nonce) (first_broken (data_read_rules (data_key keys mode) block)) c (with_data c (nonce_in text) (validation_in text)) h
      (λ q. nonce_renewed (connection_there c) c.nonce c.memory (nonce_in text) j h (data_there c (nonce_in text) (validation_in text)) q) e
