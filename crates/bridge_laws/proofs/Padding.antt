-- Whatever bytes pad an encrypted message, its frame is opened as if we had sealed it. Assumes nothing.
use Prim.Native.Nat.{ℕ, zero, suc, ◌+◌, ◌*◌, ◌≤◌}
use native.Mathlib.Omega.{arith}
use mathlib.Core.Path.{◌≡◌, refl, sym, ap, ap₂, ◌∙◌}
use mathlib.Core.Bool.{true, false}
use mathlib.Core.Logic.{inr}
use mathlib.Core.List.{List, [], ◌∷◌, ◌++◌}
use lib.ListN.{length, get_or, drop, replicate}
use lib.Dec.{ltb}
use borrow.Author.Tests.{le-ltb}
use Rattle.wire.specs.Choice.{pick}
use Rattle.wire.specs.Rules.{Rule, ◌when◌, or_else, first_broken, verdict, judge}
use Rattle.wire.specs.Content.{accepted, refused}
use Rattle.wire.proofs.Rules.{first_append, judge_pass}
use Rattle.message.specs.Reading.{message_rules, table_content}
use Rattle.message.specs.declared.Form.TheVariants.{Encrypted}
use Rattle.aes.specs.Ctr.{blocks_for}
use Rattle.envelope.specs.Blocks.{blocks_in, wrong_length, nonce_number}
use Rattle.envelope.specs.Sealed.{unpadded, plain_text, sealed_image, sealed_with, late_rules, message_in}
use Rattle.envelope.proofs.Envelopes.{length_enveloped, number_enveloped, id_enveloped, deciphered_enveloped}
use Rattle.envelope.proofs.Unsealed.{length_with, size_with, late_with, message_with, zeros, zeros_fill}
use Rattle.bridge.specs.Content.{uart_given}
use Rattle.bridge.specs.Opener.{uart_pass_rules, admin_key, head_rules, uart_entry_rules, uart_text, uart_text_rules, uart_open_rules, accepted_message, answer_of, session_after, opened, work_after, session_rules}
use Rattle.bridge.specs.Opening.{refused_answer, opened_as, blocks_after}
use Rattle.bridge.proofs.Contents.{opens_frame}
use Rattle.bridge.specs.declared.Context.{Context}
use Rattle.bridge_laws.specs.Accepts.{AcceptsFrame}
use Rattle.bridge_laws.specs.Padding.{Fills, padded_with, content_given, OpensAsOurs, PermittedMessage, ComesThrough, AnyPadding}
use Rattle.bridge_laws.proofs.Accepts.{rules_clear}
use Rattle.session.specs.Keys.{key_bytes}

-- a frame is judged before it is deciphered by its length, its fourth byte and its packet nonce
same_entry : (g : Context) (room : ℕ) (p q : List ℕ) → length p ≡ length q → get_or p 3 0 ≡ get_or q 3 0 → nonce_number p ≡ nonce_number q
    → uart_entry_rules g room p ≡ uart_entry_rules g room q
unfolding uart_entry_rules session_rules wrong_length
same_entry g room p q e d n = rw (e, d, n)

-- the work buffer after a list of rules before n blocks are deciphered, and one behind it
abbrev left : ℕ → List Rule → List Rule → List ℕ → List ℕ → List ℕ
left n xs ys text work = judge (λ i. work) xs (blocks_after n ys text work)

-- where a rule is broken, the text makes no difference
left_by_lem : (n : ℕ) (xs ys : List Rule) (t u work : List ℕ) → left n xs ys u work ≡ judge (λ i. left n xs ys t work) (xs ++ ys) (u ++ drop (16 * n) work)
left_by_lem n xs ys t u work = rw (first_append xs ys) (go (first_broken xs) (first_broken ys))
  where
    go : (i k : ℕ)
        → verdict (λ j. work) i (verdict (λ j. replicate (16 * n) 0) k u ++ drop (16 * n) work)
        ≡ verdict (λ j. verdict (λ j. work) i (verdict (λ j. replicate (16 * n) 0) k t ++ drop (16 * n) work)) (or_else i k) (u ++ drop (16 * n) work)
    go zero zero = refl
    go zero (suc k) = refl
    go (suc i) k = refl

module _ (g : Context) (pn m : List ℕ) (three-bytes : length pn ≡ 3) where
  abbrev key : List ℕ
  key = (key_bytes (admin_key g))

  abbrev sn : List ℕ
  sn = g.session.nonce

  -- ---- one padding: what is judged depends on the message alone
  module _ (padding : List ℕ) (fills : Fills m padding) where
    abbrev p : List ℕ
    p = padded_with g pn m padding

    length_padded : length p ≡ 4 + 16 * blocks_for (6 + length m)
    unfolding sealed_with
    length_padded = omega (arith, length_enveloped key pn sn 0 (unpadded m ++ padding) three-bytes, length_with m padding fills)

    id_padded : get_or p 3 0 ≡ 0
    unfolding sealed_with
    id_padded = id_enveloped key pn sn 0 (unpadded m ++ padding) three-bytes

    nonce_padded : nonce_number p ≡ nonce_number pn
    unfolding sealed_with
    nonce_padded = number_enveloped key pn sn 0 (unpadded m ++ padding) three-bytes

    text_padded : uart_text g p ≡ unpadded m ++ padding
    unfolding uart_text sealed_with
    text_padded = deciphered_enveloped key pn sn 0 (unpadded m ++ padding) three-bytes

    late_padded : late_rules (uart_text g p) ≡ (11 when false) ∷ (12 when ltb (length m) 2) ∷ []
    late_padded = rw text_padded (late_with m padding fills)

    message_padded : message_in (uart_text g p) ≡ pick (ltb (length m) 2) [] m
    message_padded = rw text_padded (message_with m padding fills)

  -- ---- two paddings: the same rules, so the same answer
  module _ (a b : List ℕ) (fills-a : Fills m a) (fills-b : Fills m b) where
    abbrev pa : List ℕ
    pa = padded_with g pn m a

    abbrev pb : List ℕ
    pb = padded_with g pn m b

    same_length : length pa ≡ length pb
    same_length = length_padded a fills-a ∙ sym (length_padded b fills-b)

    same_message : message_in (uart_text g pa) ≡ message_in (uart_text g pb)
    same_message = message_padded a fills-a ∙ sym (message_padded b fills-b)

    same_nonce : nonce_number pa ≡ nonce_number pb
    same_nonce = nonce_padded a fills-a ∙ sym (nonce_padded b fills-b)

    same_late : late_rules (uart_text g pa) ≡ late_rules (uart_text g pb)
    same_late = late_padded a fills-a ∙ sym (late_padded b fills-b)

    before : (room : ℕ) → uart_entry_rules g room pa ≡ uart_entry_rules g room pb
    before room = same_entry g room pa pb same_length (id_padded a fills-a ∙ sym (id_padded b fills-b)) same_nonce

    behind : uart_text_rules g (uart_text g pa) ≡ uart_text_rules g (uart_text g pb)
    unfolding uart_text_rules
    behind =
        ap₂ (λ (xs : List Rule) (l : List ℕ). xs ++ message_rules Encrypted g.required g.mode l) same_late same_message

    same_rules : (room major : ℕ) → uart_open_rules g room major 128 pa ≡ uart_open_rules g room major 128 pb
    unfolding uart_open_rules
    same_rules room major = ap₂ (λ (xs ys : List Rule). head_rules major 128 ++ (xs ++ ys)) (before room) behind

    same_answer : (room major : ℕ) → answer_of g room major 128 pa ≡ answer_of g room major 128 pb
    unfolding answer_of
    same_answer room major =
        ap₂ (λ (rs : List Rule) (l : List ℕ). judge refused_answer rs (accepted_message true 6 l)) (same_rules room major) same_message

    same_session : (room major : ℕ) → session_after g room major 128 pa ≡ session_after g room major 128 pb
    unfolding session_after uart_pass_rules
    same_session room major = rw (before room, same_late, same_nonce)

    same_opened : (room major : ℕ) → opened g room major 128 pa ≡ opened g room major 128 pb
    unfolding opened
    same_opened room major = ap₂ opened_as (same_answer room major) (same_session room major)

    same_content : (major : ℕ) (work : List ℕ) → content_given g major pa work ≡ content_given g major pb work
    same_content major work =
        (opens_frame g major 128 pa work refl refl).content
        ∙ ap₂ (λ (rs : List Rule) (l : List ℕ). judge (λ n. refused (uart_given n)) rs (accepted (table_content l))) (same_rules (length work) major) same_message
        ∙ sym (opens_frame g major 128 pb work refl refl).content

    -- what the one leaves, by the rules and the length of the other
    left_other : (major : ℕ) (work : List ℕ)
        → work_after g major 128 pb work ≡ left (blocks_in pa) (head_rules major 128 ++ uart_entry_rules g (length work) pa) (uart_text_rules g (uart_text g pa)) (uart_text g pb) work
    unfolding work_after
    left_other major work = rw (before (length work), behind, same_length)

    left_padded : (major : ℕ) (work : List ℕ)
        → work_after g major 128 pa work
        ≡ judge (λ n. work_after g major 128 pb work) (uart_open_rules g (length work) major 128 pa) ((unpadded m ++ a) ++ drop (16 * blocks_in pa) work)
    unfolding work_after uart_open_rules
    left_padded major work =
        left_by_lem (blocks_in pa) (head_rules major 128 ++ uart_entry_rules g (length work) pa) (uart_text_rules g (uart_text g pa)) (uart_text g pb) (uart_text g pa) work
        ∙ rw (sym (left_other major work), text_padded a fills-a)

  -- ---- ours is padded with zeros
  opens_as_ours : (major : ℕ) (padding : List ℕ) → Fills m padding → OpensAsOurs g major pn m padding
  unfolding sealed_image plain_text sealed_with
  opens_as_ours major padding fills =
      record {
        opens = λ room. same_opened padding (zeros m) fills (zeros_fill m) room major;
        content = same_content padding (zeros m) fills (zeros_fill m) major;
        leaves = left_padded padding (zeros m) fills (zeros_fill m) major;
      }

  -- ---- a message that may come through
  module _ (padding : List ℕ) (fills : Fills m padding) (ok : PermittedMessage g pn m) where
    abbrev q : List ℕ
    q = padded_with g pn m padding

    message_is : message_in (uart_text g q) ≡ m
    message_is = rw (message_padded padding fills, le-ltb (length m) 2 ok.message.typed)

    accepts_padded : (room : ℕ) → 16 * blocks_in q ≤ room → AcceptsFrame g room 1 128 q
    accepts_padded room h =
        let l = length_padded padding fills in
        let b : blocks_in q ≡ blocks_for (6 + length m) = omega (arith, l) in
        record {
          version = refl;
          form = inr refl;
          plain = λ e. absurd (omega arith);
          sealed = λ e. record {
            blocks = record { some = omega (arith, b); most = omega (arith, b, ok.most); whole = omega (arith, b, l); fits = h };
            id = id_padded padding fills;
            key = ok.key;
            session = ok.session;
            valid = ok.valid;
            differs = rw (nonce_padded padding fills) ok.differs;
            validation = rw (text_padded padding fills) refl;
            size = rw (text_padded padding fills, size_with m padding fills) ok.message.typed;
            least = rw (text_padded padding fills, size_with m padding fills) (length_with m padding fills);
            message = rw message_is ok.message;
          };
        }

    comes_through : (work : List ℕ) → 16 * blocks_in q ≤ length work → ComesThrough g pn m padding work
    comes_through work h =
        let rules = uart_open_rules g (length work) 1 128 q in
        let none = rules_clear g (length work) 1 128 q (accepts_padded (length work) h) in
        record {
          content =
              (opens_frame g 1 128 q work refl refl).content
              ∙ judge_pass (λ n. refused (uart_given n)) rules (accepted (table_content (message_in (uart_text g q)))) none
              ∙ ap (λ (l : List ℕ). accepted (table_content l)) message_is;
          leaves = left_padded padding padding fills fills 1 work ∙ judge_pass (λ n. work_after g 1 128 q work) rules ((unpadded m ++ padding) ++ drop (16 * blocks_in q) work) none;
        }

pub any_padding : (g : Context) → AnyPadding g
any_padding g =
    record {
      same = λ major pn m padding t f. opens_as_ours g pn m t major padding f;
      through = λ pn m padding work t f ok h. comes_through g pn m t padding f ok work h;
    }
