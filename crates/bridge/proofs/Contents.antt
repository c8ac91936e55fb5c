-- What an answer gives: the content that the tables read, or the number and its reply. Assumes nothing.
use mathlib.Core.Path.{◌≡◌, refl, sym, ap, ap₂, ◌∙◌}
use mathlib.Core.Bool.{Bool, true, false, ◌||◌}
use mathlib.Core.List.{List, [], ◌∷◌, ◌++◌}
use Prim.Native.Nat.{ℕ, zero, suc, ◌+◌, ◌-◌, ◌*◌, ◌≤◌, ◌<◌}
use native.Mathlib.Omega.{arith}
use lib.ListN.{length, get_or, take, drop, replicate, length-take, length-drop, drop_of_length-le}
use lib.Seq.{take-length, take-nil, drop-drop}
use lib.Dec.{eqb, leb, ltb}
use borrow.Author.Tests.{leb-true, leb-false, ltb-false, eq-eqb}
use Rattle.wire.specs.Choice.{pick}
use Rattle.wire.specs.Rules.{first_broken, judge}
use Rattle.wire.specs.Content.{accepted, refused}
use Rattle.wire.specs.Parts.{part, part_of}
use Rattle.wire.proofs.Lists.{part_in}
use Rattle.wire.proofs.Choice.{or_fails}
use Rattle.wire.proofs.Held.{held}
use Rattle.wire.proofs.Rules.{first_none, first_right, none_append, judge_pass}
use Rattle.wire.specs.Refusals.{number_of, refusal_of}
use Rattle.wire.proofs.Listed.{Listed, listed_append, listed_pick, judge_numbered}
use Rattle.message.proofs.Reading.{message_listed}
use Rattle.access.specs.Level.{level_of}
use Rattle.control.specs.Command.{command_content}
use Rattle.control.specs.Control.{command_rules, control_content, command_at}
use Rattle.control.proofs.Meaning.{packet_content}
use Rattle.message.specs.Message.{message_content, parts_at}
use Rattle.message.specs.Reading.{message_rules, message_at, table_content}
use Rattle.message.proofs.Meaning.{message_holds}
use Rattle.message.specs.declared.Form.{Form}
use Rattle.message.specs.declared.Form.TheVariants.{Plain, Encrypted}
use Rattle.envelope.specs.Blocks.{blocks_in}
use Rattle.envelope.specs.Sealed.{late_rules, message_in}
use Rattle.envelope.specs.Characteristic.{characteristic_rules, packet_in}
use Rattle.envelope.proofs.Unsealed.{holds}
use Rattle.envelope.proofs.Misfit.{message_in_text, packet_in_text}
use Rattle.bridge.specs.Reply.{Entry, no_reply, error, code, entry_of, characteristic_entry_of, reply_entry, reply_for}
use Rattle.bridge.specs.Place.{place_from, payload_at}
use Rattle.bridge.specs.Content.{Given, Answer, CommandAnswer, uart_given, characteristic_given, answer_content, command_answer_content}
use Rattle.bridge.specs.Opener.{head_rules, plain_rules, session_rules, uart_entry_rules, uart_text, uart_text_rules, uart_open_rules, accepted_message, answer_of, opened, work_after, message_opened, OpensFrame}
use Rattle.bridge.specs.Characteristic.{access_for, connection_rules, packet_entry_rules, packet_text, packet_text_rules, packet_open_rules, accepted_command, characteristic_answer_of, characteristic_work_after, characteristic_opened, OpensPacket}
use Rattle.bridge.specs.Opening.{refused_answer, refused_command, blocks_after}
use Rattle.bridge.proofs.Commands.{packet_whole}
use Rattle.bridge.specs.declared.Context.{Context}
use Rattle.bridge.specs.declared.Link.{Link}
use Rattle.bridge.specs.declared.Opened.{Opened}
use Rattle.bridge.specs.declared.OpenedCommand.{OpenedCommand}

-- ---- refusals
entry_back : (e : Entry) → reply_entry (reply_for e) ≡ e
entry_back no_reply = refl
entry_back (error n) = refl
entry_back (code n) = refl

-- a number that is a refusal's is handed out with its entry
entry_given : (entry : ℕ → Entry) (n : ℕ) → number_of (refusal_of n) ≡ n
    → ◌≡◌ {A = Given} (record { number = number_of (refusal_of n); reply = reply_entry (reply_for (entry (number_of (refusal_of n)))) }) (record { number = n; reply = entry n })
entry_given entry n e = ap₂ (λ (k : ℕ) (x : Entry). record { number = k; reply = x }) e (entry_back (entry (number_of (refusal_of n))) ∙ ap entry e)

-- ---- a message's payload, wherever the message stands
drop_take : (k n : ℕ) (l : List ℕ) → k ≤ n → drop k (take n l) ≡ take (n - k) (drop k l)
drop_take zero n l h = ap (λ (i : ℕ). take i l) (let e : n ≡ n - 0 = omega arith in e)
drop_take (suc k) zero l h = absurd (omega arith)
drop_take (suc k) (suc n) [] h = sym (take-nil (suc n - suc k))
drop_take (suc k) (suc n) (a ∷ l) h = drop_take k n l (omega arith) ∙ ap (λ (i : ℕ). take i (drop k l)) (let e : n - k ≡ suc n - suc k = omega arith in e)

part_none : (w : List ℕ) (at : ℕ) → part_of w (part at 0) ≡ []
unfolding part_of
part_none w at = go (leb (at + 0) (length w))
  where
    go : (b : Bool) → pick b (take 0 (drop at w)) [] ≡ []
    go true = refl
    go false = refl

-- where it begins at a place of w, what is behind its first k bytes
message_part : (w m : List ℕ) (at k : ℕ) → 1 ≤ length m → take (length m) (drop at w) ≡ m → part_of w (part (at + k) (at + length m - (at + k))) ≡ drop k m
message_part w m at k some e = go (leb k (length m)) refl
  where
    fits : at + length m ≤ length w
    fits = omega (arith, ap length e, length-take (length m) (drop at w), length-drop at w)

    go : (b : Bool) → leb k (length m) ≡ b → part_of w (part (at + k) (at + length m - (at + k))) ≡ drop k m
    go true q =
        let h : k ≤ length m = leb-true k (length m) q in
        let n : at + length m - (at + k) ≡ length m - k = omega arith in
        rw n
        (part_in w (at + k) (length m - k) (omega (arith, fits))
        ∙ ap (take (length m - k)) (sym (drop-drop k at w))
        ∙ sym (drop_take k (length m) (drop at w) h)
        ∙ ap (drop k) e)
    go false q =
        let h : length m < k = leb-false k (length m) q in
        let n : at + length m - (at + k) ≡ 0 = omega arith in
        let z : length m ≤ k = omega arith in
        rw n (part_none w (at + k) ∙ sym (drop_of_length-le m z))

-- where a payload lies, by the slice
payload_from : (inWork : Bool) (start end : ℕ) (frame work : List ℕ)
    → payload_at frame work (place_from inWork start end) ≡ part_of (pick inWork work frame) (part start (end - start))
unfolding payload_at
payload_from true start end frame work = refl
payload_from false start end frame work = refl

-- an accepted message gives what the tables read from its bytes
pub message_content_lem : (g : Context) (f : Form) (inWork : Bool) (at : ℕ) (m frame work : List ℕ) → 2 ≤ length m
    → first_broken (message_rules f g.required g.mode m) ≡ 0 → take (length m) (drop at (pick inWork work frame)) ≡ m
    → answer_content (accepted_message inWork at m) frame work ≡ accepted (table_content m)
message_content_lem g f inWork at m frame work short clear e =
    let k : ℕ = parts_at (message_at m) in
    let b : part_of (pick inWork work frame) (part (at + (2 + k)) (at + length m - (at + (2 + k)))) ≡ drop k (drop 2 m) =
    message_part (pick inWork work frame) m at (2 + k) (omega arith) e ∙ sym (drop-drop k 2 m) in
    ap accepted (ap (message_content (message_at m)) (payload_from inWork (at + (2 + k)) (at + length m) frame work ∙ b) ∙ (message_holds f g.required g.mode m clear).content)

-- an accepted command gives what the table reads from its packet, which stands behind the validation key
pub command_content_lem : (k : Link) (level : ℕ) (text frame rest : List ℕ) → first_broken (packet_text_rules k level text) ≡ 0
    → command_answer_content (accepted_command text) frame (text ++ rest) ≡ accepted (control_content (packet_in text))
unfolding packet_text_rules payload_at characteristic_rules
command_content_lem k level text frame rest clear =
    let q = packet_in text in
    let v = k.connection.validation in
    let a = access_for (level_of level) in
    let h = none_append (characteristic_rules v text) (command_rules q k.mode a) clear in
    let l = packet_whole v text h.0 in
    ap accepted
    (ap (command_content (command_at q)) (message_part (text ++ rest) q 4 5 (omega (arith, l)) (packet_in_text text rest (held (characteristic_rules v text) (tt, (tt, (tt, tt))) h.0).1.0))
    ∙ packet_content q k.mode a (rw (eq-eqb _ _ l) h.1))

-- ---- each number is a refusal's
pub frame_listed : (g : Context) (room major wrapper : ℕ) (p : List ℕ) → Listed (uart_open_rules g room major wrapper p)
unfolding uart_open_rules uart_entry_rules session_rules uart_text_rules late_rules plain_rules
frame_listed g room major wrapper p =
    let entry = uart_entry_rules g room p ++ uart_text_rules g (uart_text g p) in
    listed_append (head_rules major wrapper) (pick (eqb wrapper 128) entry (plain_rules g p)) (tt, (tt, tt))
    (listed_pick (eqb wrapper 128) entry (plain_rules g p)
    (tt, (tt, (tt, (tt, (tt, (tt, (tt, (tt, message_listed Encrypted g.required g.mode (message_in (uart_text g p))))))))))
    (tt, message_listed Plain g.required g.mode p))

pub packet_listed : (k : Link) (room : ℕ) (p : List ℕ) → Listed (packet_open_rules k room p)
unfolding packet_open_rules packet_entry_rules connection_rules packet_text_rules characteristic_rules
packet_listed k room p = (tt, (tt, (tt, (tt, (tt, (tt, (tt, (tt, (tt, (tt, (tt, (tt, (tt, (tt, tt))))))))))))))

-- ---- a frame
plain_content : (g : Context) (p work : List ℕ) → first_broken (plain_rules g p) ≡ 0 → answer_content (accepted_message false 0 p) p work ≡ accepted (table_content p)
unfolding plain_rules
plain_content g p work e =
    let x = first_none 6 (ltb (length p) 2 || ltb 507 (length p)) (message_rules Plain g.required g.mode p) e in
    message_content_lem g Plain false 0 p p work (ltb-false _ _ (or_fails (ltb (length p) 2) (ltb 507 (length p)) x.0).0) x.1 (take-length p)

module _ (g : Context) (major wrapper : ℕ) (p work : List ℕ) where
  -- how the accepted answer stands, by the form
  accepted_content : (b : Bool) → first_broken (head_rules major wrapper ++ pick b (uart_entry_rules g (length work) p ++ uart_text_rules g (uart_text g p)) (plain_rules g p)) ≡ 0
      → answer_content (pick b (accepted_message true 6 (message_in (uart_text g p))) (accepted_message false 0 p)) p
      (pick b (judge (λ n. work) (head_rules major wrapper ++ uart_entry_rules g (length work) p) (blocks_after (blocks_in p) (uart_text_rules g (uart_text g p)) (uart_text g p) work)) work)
      ≡ accepted (table_content (pick b (message_in (uart_text g p)) p))
  unfolding uart_text_rules late_rules
  accepted_content true e =
      let t = uart_text g p in
      let m = message_in t in
      let x = none_append (head_rules major wrapper) (uart_entry_rules g (length work) p ++ uart_text_rules g t) e in
      let y = none_append (uart_entry_rules g (length work) p) (uart_text_rules g t) x.1 in
      let z = none_append (late_rules t) (message_rules Encrypted g.required g.mode m) y.1 in
      let w : judge (λ n. work) (head_rules major wrapper ++ uart_entry_rules g (length work) p) (blocks_after (blocks_in p) (uart_text_rules g t) t work) ≡ t ++ drop (16 * blocks_in p) work =
      judge_pass (λ n. work) (head_rules major wrapper ++ uart_entry_rules g (length work) p) (blocks_after (blocks_in p) (uart_text_rules g t) t work)
      (first_right (head_rules major wrapper) (uart_entry_rules g (length work) p) x.0 ∙ y.0)
      ∙ ap (λ (l : List ℕ). l ++ drop (16 * blocks_in p) work) (judge_pass (λ n. replicate (16 * blocks_in p) 0) (uart_text_rules g t) t y.1) in
      let h = holds t z.0 in
      ap (λ (l : List ℕ). answer_content (accepted_message true 6 m) p l) w
      ∙ message_content_lem g Encrypted true 6 m p (t ++ drop (16 * blocks_in p) work) (omega (arith, h.some, h.size)) z.1
      (message_in_text t (drop (16 * blocks_in p) work) (held (late_rules t) (tt, (tt, tt)) z.0).1.0)
  accepted_content false e = plain_content g p work (none_append (head_rules major wrapper) (plain_rules g p) e).1

  opened_content : answer_content (answer_of g (length work) major wrapper p) p (work_after g major wrapper p work)
      ≡ judge (λ n. refused (uart_given n)) (uart_open_rules g (length work) major wrapper p) (accepted (table_content (message_opened g wrapper p)))
  unfolding answer_of work_after uart_open_rules
  opened_content =
      judge_numbered (λ (a : Answer). answer_content a p (work_after g major wrapper p work)) refused_answer (λ n. refused (uart_given n)) (uart_open_rules g (length work) major wrapper p)
      (pick (eqb wrapper 128) (accepted_message true 6 (message_in (uart_text g p))) (accepted_message false 0 p)) (accepted (table_content (message_opened g wrapper p)))
      (frame_listed g (length work) major wrapper p) (λ n e. ap refused (entry_given entry_of n e)) (accepted_content (eqb wrapper 128))

  -- the promise, from the equations by cases
  pub opens_frame : {r : Opened} {after : List ℕ} → r ≡ opened g (length work) major wrapper p → after ≡ work_after g major wrapper p work
      → OpensFrame g major wrapper p work r after
  unfolding opened
  opens_frame {r} e w =
      record {
        content = ap₂ (λ (x : Opened) (l : List ℕ). answer_content x.answer p l) e w ∙ opened_content;
        opens = e;
        leaves = w;
      }

-- ---- a packet
module _ (k : Link) (p work : List ℕ) where
  packet_opened : command_answer_content (characteristic_answer_of k (length work) p) p (characteristic_work_after k p work)
      ≡ judge (λ n. refused (characteristic_given n)) (packet_open_rules k (length work) p) (accepted (control_content (packet_in (packet_text k p))))
  unfolding characteristic_answer_of characteristic_work_after packet_open_rules
  packet_opened =
      let t = packet_text k p in
      let rules = packet_text_rules k (get_or p 3 0) t in
      judge_numbered (λ (a : CommandAnswer). command_answer_content a p (characteristic_work_after k p work)) refused_command (λ n. refused (characteristic_given n)) (packet_open_rules k (length work) p)
      (accepted_command t) (accepted (control_content (packet_in t)))
      (packet_listed k (length work) p) (λ n e. ap refused (entry_given characteristic_entry_of n e))
      (λ e.
      let x = none_append (packet_entry_rules k (length work) p) rules e in
      let w : characteristic_work_after k p work ≡ t ++ drop (16 * blocks_in p) work =
      judge_pass (λ n. work) (packet_entry_rules k (length work) p) (blocks_after (blocks_in p) rules t work) x.0
      ∙ ap (λ (l : List ℕ). l ++ drop (16 * blocks_in p) work) (judge_pass (λ n. replicate (16 * blocks_in p) 0) rules t x.1) in
      ap (λ (l : List ℕ). command_answer_content (accepted_command t) p l) w
      ∙ command_content_lem k (get_or p 3 0) t p (drop (16 * blocks_in p) work) x.1)

  pub opens_packet : {r : OpenedCommand} {after : List ℕ} → r ≡ characteristic_opened k (length work) p → after ≡ characteristic_work_after k p work
      → OpensPacket k p work r after
  unfolding characteristic_opened
  opens_packet e w =
      record {
        content = ap₂ (λ (x : OpenedCommand) (l : List ℕ). command_answer_content x.answer p l) e w ∙ packet_opened;
        opens = e;
        leaves = w;
      }
