-- Each thing that demand 3 supposes is needed: without it something else comes out. Assumes nothing.
use mathlib.Core.Path.{◌≡◌, refl, sym, ap, ◌∙◌}
use mathlib.Core.Bool.{false}
use mathlib.Core.List.{List, [], ◌∷◌, ◌++◌}
use Prim.Native.Nat.{ℕ, suc, ◌≤◌}
use native.Mathlib.Omega.{arith}
use lib.ListN.{length, get_or}
use lib.Dec.{ltb}
use Rattle.wire.specs.Parts.{part_of}
use Rattle.wire.specs.Rules.{Rule, ◌when◌, first_broken, verdict}
use Rattle.wire.specs.Writing.{Writes}
use Rattle.std.specs.Prelude.{Result, None}
use Rattle.wire.specs.declared.refusals.Refusal.{Refusal}
use Rattle.wire.specs.Refusals.{refusing}
use Rattle.crc.specs.Crc.{crc_from, crc_byte, crc_bit}
use Rattle.frame.specs.Image.{image, escape, escape_byte, is_mark}
use Rattle.frame.specs.Writer.{bad_frame}
use Rattle.line.specs.Receive.{step_of, busy, mid_frame, in_frame, unescaped, taken, stored, sized, idle_receiver, fresh_receiver}
use Rattle.line.specs.Line as line
use Rattle.line.specs.Line.{refusal, frame, frame_gives, value_gives, escaped_gives, inside_gives, gives, run}
use Rattle.access.specs.declared.Mode.{Mode}
use Rattle.access.specs.declared.Mode.TheVariants.{Normal, Setup}
use Rattle.session.specs.Memory.{limited, remembered, remembering}
use Rattle.session.specs.Session.{session_there, valid_at, no_session, with_nonce, session_remembering}
use Rattle.session.specs.declared.Session.{Session}
use Rattle.session.specs.declared.Keys.{Keys}
use Rattle.aes.proofs.KeyStream.{length_ctr}
use Rattle.envelope.specs.Blocks.{outside, Seals, blocks_in, nonce_number, wrong_length, enveloped, not_least}
use Rattle.envelope.specs.Sealed.{sealed_image, plain_text, late_rules, message_in}
use Rattle.envelope.proofs.Unsealed.{sealed_number, sealed_id, sealed_blocks, sealed_whole, unsealed, length_plain}
use Rattle.bridge.specs.Opener.{admin_key, session_rules, uart_entry_rules, uart_text, uart_text_rules, plain_rules, uart_open_rules, answer_of, session_after, opened}
use Rattle.bridge.specs.Opening.{refused_answer, sealed_answer, text_answer}
use Rattle.bridge.proofs.Opening.{sealed_frame}
use Rattle.bridge.specs.declared.Context.{Context}
use Rattle.bridge.specs.Content.{Answer}
use Rattle.whole_line.specs.Listed.{Item, plain, sealed, SentItem, wrapped, line_of, during}
use Rattle.whole_line.proofs.Example.{g, hello, reply, switch}
use Rattle.session.specs.Keys.{key_bytes}

-- what an opening gives, with a time and a room, of an item that was made in the same context
abbrev pub got : Context → ℕ → ℕ → Item → Answer
got h time room (plain m) = answer_of (during h h.session (record { 0 = time })) room 1 0 m
got h time room (sealed pn m) = answer_of (during h h.session (record { 0 = time })) room 1 128 (wrapped h (sealed pn m))

-- ---- a sealed message's opening: 25, 10, 8, 9 and 28
abbrev pn : List ℕ
pn = 0x7E ∷ 8 ∷ 9 ∷ []

abbrev one : Item
one = sealed pn switch

-- before it is deciphered; either message here has one block
module _ (h : Context) (time room : ℕ) (m : List ℕ) (short : length m ≤ 10) (some : 1 ≤ length m) where
  abbrev here : Context
  here = during h h.session (record { 0 = time })

  abbrev payload : List ℕ
  payload = wrapped h (sealed pn m)

  -- 25; 10, 8, 9 and 28, of a payload with key ID 0 and that packet nonce
  abbrev rules : List Rule
  rules = (25 when ltb room 16) ∷ session_rules here (pn ++ (0 ∷ []))

  enters : first_broken (uart_entry_rules here room payload) ≡ first_broken rules
  unfolding uart_entry_rules session_rules
  enters =
      let n : blocks_in payload ≡ 1 = omega (arith, sealed_blocks (key_bytes (admin_key h)) pn h.session.nonce m refl) in
      rw (
        sealed_whole (key_bytes (admin_key h)) pn h.session.nonce m refl (omega arith),
        n,
        sealed_id (key_bytes (admin_key h)) pn h.session.nonce m refl,
        sealed_number (key_bytes (admin_key h)) pn h.session.nonce m refl,
      )

  answered : (n : ℕ) → first_broken rules ≡ n → got h time room (sealed pn m) ≡ verdict refused_answer n (text_answer here (plain_text m))
  unfolding sealed_answer uart_text
  answered n e =
      sym (sealed_frame here room payload)
      ∙ ap (λ (i : ℕ). verdict refused_answer i (text_answer here (uart_text here payload))) (enters ∙ e)
      ∙ ap (λ (l : List ℕ). verdict refused_answer n (text_answer here l)) (unsealed (key_bytes (admin_key h)) pn h.session.nonce m refl)

entered : (h : Context) (time room n : ℕ) → first_broken (rules h time room switch (omega arith) (omega arith)) ≡ suc n → got h time room one ≡ refused_answer (suc n)
entered h time room n e = answered h time room switch (omega arith) (omega arith) (suc n) e

abbrev with : Session → Keys → Mode → Context
with s k m = record { session = s; time = g.time; keys = k; mode = m; required = g.required }

abbrev no_keys : Keys
no_keys = record { admin = None; member = None; basic = None; setup = None }

-- room one byte short; no admin key; setup mode; no session; the session run out; a clock behind
pub short_room : got g 159 15 one ≡ refused_answer 25
unfolding session_rules valid_at session_there remembered limited
short_room = entered g 159 15 24 refl

pub no_key_lem : got (with g.session no_keys Normal) 159 16 one ≡ refused_answer 10
unfolding session_rules valid_at session_there remembered limited
no_key_lem = entered (with g.session no_keys Normal) 159 16 9 refl

pub in_setup : got (with g.session g.keys Setup) 159 16 one ≡ refused_answer 10
unfolding session_rules valid_at session_there remembered limited
in_setup = entered (with g.session g.keys Setup) 159 16 9 refl

pub no_session_lem : got (with no_session g.keys Normal) 159 16 one ≡ refused_answer 8
unfolding session_rules valid_at session_there remembered limited
no_session_lem = entered (with no_session g.keys Normal) 159 16 7 refl

pub run_out : got g 160 16 one ≡ refused_answer 9
unfolding session_rules valid_at session_there remembered limited
run_out = entered g 160 16 8 refl

pub clock_behind : got g 99 16 one ≡ refused_answer 9
unfolding session_rules valid_at session_there remembered limited
clock_behind = entered g 99 16 8 refl

-- a packet nonce that the session remembers
pub nonce_again : got (with (session_remembering g.session (nonce_number pn)) g.keys Normal) 159 16 one ≡ refused_answer 28
unfolding session_rules valid_at session_there remembered limited remembering session_remembering
nonce_again = entered (with (session_remembering g.session (nonce_number pn)) g.keys Normal) 159 16 27 refl

-- a packet nonce of two bytes: the payload has 19, and gets 7
two_bytes : length (wrapped g (sealed (8 ∷ 9 ∷ []) switch)) ≡ 19
unfolding sealed_image enveloped
two_bytes = omega (arith, length_ctr (key_bytes g.keys.admin) (8 ∷ 9 ∷ []) g.session.nonce (plain_text switch), length_plain switch)

pub nonce_of_two : got g 159 16 (sealed (8 ∷ 9 ∷ []) switch) ≡ refused_answer 7
unfolding uart_entry_rules sealed_answer wrong_length
nonce_of_two =
    let k : Context = during g g.session (record { 0 = 159 }) in
    let p : List ℕ = wrapped g (sealed (8 ∷ 9 ∷ []) switch) in
    let b : first_broken (uart_entry_rules k 16 p) ≡ 7 = rw two_bytes refl in
    sym (sealed_frame k 16 p) ∙ ap (λ (i : ℕ). verdict refused_answer i (text_answer k (uart_text k p))) b

-- ---- the limits
-- a plain message above 507 bytes, and an encrypted one above 490 or below 2: 17 from its writer, whatever the room
pub too_long : (m room after : List ℕ) (answer : Result ℕ Refusal) → length m ≡ 508 → Writes (bad_frame 0 (length m)) (image 0 m) room answer after → answer ≡ refusing 17
unfolding bad_frame
too_long m room after answer e w = w.answers ∙ rw e refl

pub too_long_sealed : (m image room after : List ℕ) (answer : Result ℕ Refusal) → length m ≡ 491 → Seals (admin_key g) (outside 2 490 (length m)) image room answer after → answer ≡ refusing 17
too_long_sealed m image room after answer e w = w.answers ∙ rw e refl

pub too_short_sealed : (m image room after : List ℕ) (answer : Result ℕ Refusal) → length m ≡ 1 → Seals (admin_key g) (outside 2 490 (length m)) image room answer after → answer ≡ refusing 17
too_short_sealed m image room after answer e w = w.answers ∙ rw e refl

-- room one byte short: 25
pub short_frame_room : (room after : List ℕ) (answer : Result ℕ Refusal) → length room ≡ 10 → Writes (bad_frame 0 3) (image 0 hello) room answer after → answer ≡ refusing 25
unfolding bad_frame escape escape_byte is_mark crc_from crc_byte crc_bit
short_frame_room room after answer e w = w.answers ∙ rw e refl

-- a plain one below 2: 7 from the opener
pub too_short : got g 159 0 (plain (4 ∷ [])) ≡ refused_answer 7
unfolding answer_of uart_open_rules plain_rules
too_short = refl

-- ---- 14 to 24
abbrev answers : Context → List (List ℕ) → List Answer
answers h [] = []
answers h (m ∷ ms) = got h 159 0 (plain m) ∷ answers h ms

abbrev refusals : List ℕ → List Answer
refusals [] = []
refusals (n ∷ ns) = refused_answer n ∷ refusals ns

abbrev unrequired : Context
unrequired = record { session = g.session; time = g.time; keys = g.keys; mode = Normal; required = false }

-- type 12; plain where encryption is required; hello with bit 4
pub broken_message : answers g ((12 ∷ 0 ∷ []) ∷ switch ∷ (0 ∷ 0 ∷ 16 ∷ []) ∷ []) ≡ refusals (14 ∷ 15 ∷ 17 ∷ [])
unfolding answer_of uart_open_rules plain_rules
broken_message = refl

-- a control packet's length, protocol, command, mark for the mode, payload length and payload field
pub broken_packet : answers unrequired
    ((10 ∷ 0 ∷ 5 ∷ 20 ∷ 0 ∷ 2 ∷ 0 ∷ 100 ∷ [])
    ∷ (10 ∷ 0 ∷ 4 ∷ 20 ∷ 0 ∷ 1 ∷ 0 ∷ 100 ∷ [])
    ∷ (10 ∷ 0 ∷ 5 ∷ 22 ∷ 0 ∷ 1 ∷ 0 ∷ 100 ∷ [])
    ∷ (10 ∷ 0 ∷ 5 ∷ 0 ∷ 0 ∷ 1 ∷ 0 ∷ 100 ∷ [])
    ∷ (10 ∷ 0 ∷ 5 ∷ 20 ∷ 0 ∷ 0 ∷ 0 ∷ [])
    ∷ (10 ∷ 0 ∷ 5 ∷ 20 ∷ 0 ∷ 1 ∷ 0 ∷ 101 ∷ [])
    ∷ [])
    ≡ refusals (18 ∷ 19 ∷ 20 ∷ 21 ∷ 23 ∷ 24 ∷ [])
unfolding answer_of uart_open_rules plain_rules
broken_packet = refl

-- encrypted where plain only. No message of the list gets 22: every command that normal mode permits is marked A
pub broken_form : got g 159 16 (sealed pn hello) ≡ refused_answer 16
unfolding session_rules valid_at session_there remembered limited text_answer uart_text_rules late_rules plain_text message_in not_least
broken_form = answered g 159 16 hello (omega arith) (omega arith) 0 refl

-- ---- a session nonce in the list: the session after it is another
abbrev renew : List ℕ
renew = 1 ∷ 0 ∷ 1 ∷ 9 ∷ 9 ∷ 9 ∷ 9 ∷ 9 ∷ []

pub renewed : (opened g 0 1 0 renew).session ≡ with_nonce g.session (9 ∷ 9 ∷ 9 ∷ 9 ∷ 9 ∷ []) (record { 0 = 1 }) g.time
unfolding opened session_after plain_rules
renewed = refl

pub another : (opened g 0 1 0 renew).session ≡ g.session → ⊥
unfolding opened session_after plain_rules
another e = let z : ◌≡◌ {A = ℕ} 9 0x7E = ap (λ (s : Session). get_or s.nonce 0 0) e in omega arith

-- ---- the line
abbrev sent : List ℕ → List ℕ → SentItem
sent m noise = record { item = plain m; noise = noise }

-- a 7E in the noise: 1 at the next frame's start byte
pub start_in_noise : run (line_of g (sent hello (0x7E ∷ []) ∷ sent hello [] ∷ [])) fresh_receiver ≡ frame 1 0 0 3 hello ∷ refusal 1 2 ∷ frame 1 0 0 3 hello ∷ []
unfolding run gives inside_gives escaped_gives value_gives frame_gives step_of busy mid_frame in_frame unescaped taken stored sized part_of line.line_of escape escape_byte is_mark crc_from crc_byte crc_bit
start_in_noise = refl

-- with 7E in the noise behind a frame, or in what comes before, lists of one and of two messages make the same line
pub same_in_noise : line_of g (sent hello (image 0 reply) ∷ []) ≡ line_of g (sent hello [] ∷ sent reply [] ∷ [])
unfolding line.line_of escape escape_byte is_mark crc_from crc_byte crc_bit
same_in_noise = refl

pub same_before : image 0 hello ++ line_of g (sent reply [] ∷ []) ≡ line_of g (sent hello [] ∷ sent reply [] ∷ [])
unfolding line.line_of escape escape_byte is_mark crc_from crc_byte crc_bit
same_before = refl

-- a store without room for the frame: 4
pub no_store : run (line_of g (sent hello [] ∷ [])) (idle_receiver []) ≡ refusal 4 11 ∷ []
unfolding run gives inside_gives escaped_gives value_gives frame_gives step_of busy mid_frame in_frame unescaped taken stored sized part_of line.line_of escape escape_byte is_mark crc_from crc_byte crc_bit
no_store = refl
