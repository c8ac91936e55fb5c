-- The opener of a frame: document 01, 'Numbers given when something is refused' and the two paragraphs behind the table; no 13 (document 02 §2), and
-- 28 directly after 9 (document 02 §6).
use Rattle.std.specs.Prelude.{ℕ, ◌+◌, ◌*◌, ◌≡◌, Bool, true, false, not, ◌||◌, List, [], ◌∷◌, ◌++◌, length, get_or, drop, replicate, eqb, ltb, Option, is_some, Ok, Err}
use Rattle.wire.specs.Choice.{pick}
use Rattle.wire.specs.Rules.{Rule, ◌when◌, judge}
use Rattle.wire.specs.Refusals.{refusal_of}
use Rattle.wire.specs.Content.{accepted, refused}
use Rattle.access.specs.declared.Level.TheVariants.{Admin}
use Rattle.message.specs.Message.{parts_at}
use Rattle.message.specs.Reading.{message_rules, message_at, table_content}
use Rattle.message.specs.declared.Form.TheVariants.{Plain, Encrypted}
use Rattle.message.specs.declared.Message.{Message}
use Rattle.message.specs.declared.Message.TheVariants.{Hello, SessionNonce, Heartbeat, Status, GetMac, Control, HubReply}
use Rattle.session.specs.Session.{session_there, with_nonce, valid_at, session_remembering}
use Rattle.session.specs.Keys.{key_bytes, key_for}
use Rattle.session.specs.declared.Session.{Session}
use Rattle.envelope.specs.Blocks.{blocks_in, deciphered, length_rule, room_rule, nonce_number, nonce_rule}
use Rattle.envelope.specs.Sealed.{late_rules, message_in}
use Rattle.bridge.specs.Reply.{uart_refused}
use Rattle.bridge.specs.Place.{place_from}
use Rattle.bridge.specs.Content.{Answer, uart_given, answer_content}
use Rattle.bridge.specs.declared.Context.{Context}
use Rattle.bridge.specs.declared.Opened.{Opened}

-- ---- the rules, in the table's order
-- 5: major not 1; 6: wrapper type not 0 or 128
abbrev pub head_rules : ℕ → ℕ → List Rule
head_rules major wrapper =
    (5 when not (eqb major 1))
    ∷ (6 when not (eqb wrapper 0 || eqb wrapper 128))
    ∷ []

-- a plain message: 7: payload below 2 or above 507; then 14 to 24
unfoldable pub plain_rules : Context → List ℕ → List Rule
plain_rules g p =
    (7 when (ltb (length p) 2 || ltb 507 (length p)))
    ∷ message_rules Plain g.required g.mode p

-- key ID 0 means admin
abbrev pub admin_key : Context → Option (List ℕ)
admin_key g = key_for g.keys g.mode Admin

-- an encrypted message or packet before anything else: 7, 25
abbrev pub block_rules : List ℕ → ℕ → List Rule
block_rules p room = length_rule p ∷ room_rule p room ∷ []

-- 10: key ID not 0, or no admin key held in this mode; 8: no session; 9: session run out; 28: a packet nonce used again
unfoldable pub session_rules : Context → List ℕ → List Rule
session_rules g p =
    (10 when (not (eqb (get_or p 3 0) 0) || not (is_some (admin_key g))))
    ∷ (8 when not (session_there g.session))
    ∷ (9 when not (valid_at g.session g.time))
    ∷ nonce_rule g.session.memory p
    ∷ []

-- an encrypted message before it is deciphered: 7, 25, 10, 8, 9, 28
unfoldable pub uart_entry_rules : Context → ℕ → List ℕ → List Rule
uart_entry_rules g room p = block_rules p room ++ session_rules g p

-- the blocks of an encrypted message deciphered
unfoldable pub uart_text : Context → List ℕ → List ℕ
uart_text g p = deciphered (key_bytes (admin_key g)) g.session.nonce p

-- of the deciphered blocks: 11, 12; then 14 to 24
unfoldable pub uart_text_rules : Context → List ℕ → List Rule
uart_text_rules g text = late_rules text ++ message_rules Encrypted g.required g.mode (message_in text)

-- the rules of an encrypted message up to 13, which a frame does not have: where none of them is broken, its packet nonce is remembered
unfoldable pub uart_pass_rules : Context → ℕ → ℕ → ℕ → List ℕ → List Rule
uart_pass_rules g room major wrapper p = head_rules major wrapper ++ (uart_entry_rules g room p ++ late_rules (uart_text g p))

-- all rules of a frame
unfoldable pub uart_open_rules : Context → ℕ → ℕ → ℕ → List ℕ → List Rule
uart_open_rules g room major wrapper p =
    head_rules major wrapper
    ++ pick (eqb wrapper 128) (uart_entry_rules g room p ++ uart_text_rules g (uart_text g p)) (plain_rules g p)

-- ---- the answer: the first broken rule, or the message and where its payload lies
-- a message that stands behind so many bytes
abbrev pub accepted_message : Bool → ℕ → List ℕ → Answer
accepted_message inWork start m = Ok (message_at m, place_from inWork (start + (2 + parts_at (message_at m))) (start + length m))

unfoldable pub answer_of : Context → ℕ → ℕ → ℕ → List ℕ → Answer
answer_of g room major wrapper p =
    judge (λ n. Err (uart_refused (refusal_of n))) (uart_open_rules g room major wrapper p)
    (pick (eqb wrapper 128) (accepted_message true 6 (message_in (uart_text g p))) (accepted_message false 0 p))

-- ---- the session after it
-- a plain message: only an accepted session nonce message changes it
abbrev pub session_by : Context → Message → Session
session_by g (Hello flags) = g.session
session_by g (SessionNonce f) =
    with_nonce g.session f.nonce f.timeout g.time
session_by g (Heartbeat t) = g.session
session_by g (Status f) = g.session
session_by g GetMac = g.session
session_by g (Control c) = g.session
session_by g (HubReply f) = g.session

-- an encrypted message, never a session nonce (16): where it passed all of 10 to 13 (a frame has no 13), also when 14 to 24 refuse it later,
-- its packet nonce is remembered
unfoldable pub session_after : Context → ℕ → ℕ → ℕ → List ℕ → Session
session_after g room major wrapper p =
    pick (eqb wrapper 128)
    (judge (λ n. g.session) (uart_pass_rules g room major wrapper p) (session_remembering g.session (nonce_number p)))
    (judge (λ n. g.session) (head_rules major wrapper ++ plain_rules g p) (session_by g (message_at p)))

unfoldable pub opened : Context → ℕ → ℕ → ℕ → List ℕ → Opened
opened g room major wrapper p =
    record { answer = answer_of g room major wrapper p; session = session_after g room major wrapper p }

-- ---- the work buffer after it: refusals 5 to 10, 25 and 28, and a plain message, touch nothing; an encrypted message refused later leaves the
-- first 16n bytes zero, an accepted one leaves them deciphered; all other bytes stay
unfoldable pub work_after : Context → ℕ → ℕ → List ℕ → List ℕ → List ℕ
work_after g major wrapper p work =
    pick (eqb wrapper 128)
    (judge (λ n. work) (head_rules major wrapper ++ uart_entry_rules g (length work) p)
    (judge (λ n. replicate (16 * blocks_in p) 0) (uart_text_rules g (uart_text g p)) (uart_text g p) ++ drop (16 * blocks_in p) work))
    work

-- ---- the opener's promise
-- the message in a frame: deciphered, or the payload itself
abbrev pub message_opened : Context → ℕ → List ℕ → List ℕ
message_opened g wrapper p = pick (eqb wrapper 128) (message_in (uart_text g p)) p

pub record OpensFrame (g : Context) (major wrapper : ℕ) (p work : List ℕ) (r : Opened) (after : List ℕ) : Type 0 where
  -- accepted with what the tables read from the message, or refused with the first broken rule's number and its reply
  pub content :
      answer_content r.answer p after
      ≡ judge (λ n. refused (uart_given n)) (uart_open_rules g (length work) major wrapper p) (accepted (table_content (message_opened g wrapper p)))
  -- the session after it, and the answer by the cases of the enum
  pub opens : r ≡ opened g (length work) major wrapper p
  pub leaves : after ≡ work_after g major wrapper p work
