-- What the writer of messages wrote is read back, every type at once. Assumes nothing.
use mathlib.Core.Path.{◌≡◌, refl, sym, ap, subst, ◌∙◌}
use Prim.Native.Nat.{ℕ}
use mathlib.Core.Bool.{Bool, true, false}
use mathlib.Core.List.{List, ◌++◌}
use native.Mathlib.Omega.{arith}
use lib.ListN.{length, take}
use lib.Dec.{ltb}
use borrow.Author.Tests.{le-ltb}
use Rattle.wire.specs.Numbers.{num, le}
use Rattle.wire.specs.Rules.{first_broken, verdict}
use Rattle.wire.specs.Fields.{Layout, tail_parts, each_part, body_of}
use Rattle.wire.specs.Writing.{Writes}
use Rattle.std.specs.Prelude.{Result, Ok}
use Rattle.wire.specs.declared.refusals.Refusal.{Refusal}
use Rattle.wire.proofs.Choice.{or_fails}
use Rattle.wire.proofs.Content.{same_content}
use Rattle.wire.proofs.Fields.{readable}
use Rattle.wire.proofs.Rules.{first_right}
use Rattle.wire.proofs.Held.{held, unbroken}
use Rattle.wire.proofs.Writers.{wrote_back}
use Rattle.access.specs.declared.Mode.{Mode}
use Rattle.control.specs.Control.{mark_rules}
use Rattle.control.specs.declared.Command.{Command}
use Rattle.control_write.specs.Image.{row_for, control_image, command_bad}
use Rattle.control_write.proofs.Trip as packets
use Rattle.message.specs.Message.{message_type, message_values, message_parts, message_bytes}
use Rattle.message.specs.Table.{Body, fields, type_of, access_of}
use Rattle.message.specs.Reading.{form_rules, body_rules, message_rules, message_at, under, body_content}
use Rattle.message.specs.declared.Form.{Form}
use Rattle.message.specs.declared.Message.{Message}
use Rattle.message.specs.declared.Message.TheVariants.{Hello, SessionNonce, Heartbeat, Status, GetMac, Control, HubReply}
use Rattle.wire.specs.Refusals.{refusing}
use Rattle.message.proofs.Meaning.{message_holds}
use Rattle.message_write.specs.Image.{body_for, data_of, data_bad, message_image, message_bad}
use Rattle.message_write.specs.RoundTrip.{permit_rules, ReadsBack}

-- no rule is broken: those of the type, and those of the data
clear : (f : Form) (required : Bool) (mode : Mode) (n : ℕ) (d : List ℕ) → (type_of n).listed ≡ true
    → first_broken (form_rules (type_of n).allowed f required) ≡ 0 → first_broken (body_rules (type_of n).body f mode d) ≡ 0
    → first_broken (message_rules f required mode (le 2 n ++ d)) ≡ 0
clear f required mode n d l e b =
    let k : num 2 0 (le 2 n ++ d) ≡ n = omega arith in
    rw (k, le-ltb (length (le 2 n ++ d)) 2 (omega arith), l)
    (first_right (form_rules (type_of n).allowed f required) (body_rules (type_of n).body f mode d) e ∙ b)

-- ---- data of fields
module _ (m : Message) (s : List ℕ) (f : Form) (required : Bool) (mode : Mode) (l : Layout) (make : List ℕ → ℕ → Message)
    (body : body_for m ≡ fields l make) (apart : tail_parts l.tail (message_bytes m s) ≡ each_part s (message_parts m)) (listed : (type_of (message_type m)).listed ≡ true)
    (may : first_broken (form_rules (type_of (message_type m)).allowed f required) ≡ 0) where
  fields_back : data_bad (body_for m) m s ≡ false → ReadsBack m s (message_image m s) f required mode
  fields_back good =
      let q = body_of l (message_values m) (message_parts m) s in
      let p = le 2 (message_type m) ++ q in
      let r = readable l (message_values m) (message_parts m) (message_parts (make (message_values m) (length q))) s (sym (ap (λ (b : Body). data_bad b m s) body) ∙ good) in
      let k : num 2 0 p ≡ message_type m = omega arith in
      let e = clear f required mode (message_type m) q listed may (ap (λ (x : Body). first_broken (body_rules x f mode q)) body ∙ rw (r.sized, r.right)) in
      subst (λ (i : List ℕ). ReadsBack m s i f required mode) (sym (ap (λ (x : Body). le 2 (message_type m) ++ data_of x m s) body))
      (record {
        content =
            (message_holds f required mode p e).content
            ∙ ap (λ (n : ℕ). body_content n (type_of n).body q) k
            ∙ ap (λ (x : Body). body_content (message_type m) x q) body
            ∙ same_content refl r.values (ap (tail_parts l.tail) r.behind ∙ apart);
        answer = ap (λ (n : ℕ). verdict refusing n (Ok (message_at p))) e;
      })

-- ---- a control packet
packet_back : (c : Command) (s : List ℕ) (f : Form) (required : Bool) (mode : Mode) → command_bad c s ≡ false
    → first_broken (form_rules (type_of 10).allowed f required) ≡ 0 → first_broken (mark_rules (row_for c).marked mode (access_of f)) ≡ 0
    → ReadsBack (Control c) s (message_image (Control c) s) f required mode
packet_back c s f required mode good may marked =
    let e = clear f required mode 10 (control_image c s) refl may (packets.unbroken c s mode (access_of f) good marked) in
    record {
      content = ap (under 10) (packets.reads_back c s mode (access_of f) good marked).content;
      answer = ap (λ (n : ℕ). verdict refusing n (Ok (message_at (message_image (Control c) s)))) e;
    }

-- ---- either
module _ (s : List ℕ) (f : Form) (required : Bool) (mode : Mode) where
  pub reads_back : (m : Message) → message_bad m s ≡ false → first_broken (permit_rules m f required mode) ≡ 0 → ReadsBack m s (message_image m s) f required mode
  reads_back (Hello x) good may = fields_back (Hello x) s f required mode _ _ refl refl refl may (or_fails _ _ good).0
  reads_back (SessionNonce x) good may = fields_back (SessionNonce x) s f required mode _ _ refl refl refl may (or_fails _ _ good).0
  reads_back (Heartbeat x) good may = fields_back (Heartbeat x) s f required mode _ _ refl refl refl may (or_fails _ _ good).0
  reads_back (Status x) good may = fields_back (Status x) s f required mode _ _ refl refl refl may (or_fails _ _ good).0
  reads_back GetMac good may = fields_back GetMac s f required mode _ _ refl refl refl may (or_fails _ _ good).0
  reads_back (HubReply x) good may = fields_back (HubReply x) s f required mode _ _ refl refl refl may (or_fails _ _ good).0
  reads_back (Control c) good may =
      let k = form_rules (type_of 10).allowed f required in
      let h = held (permit_rules (Control c) f required mode) (tt, (tt, (tt, (tt, tt)))) may in
      packet_back c s f required mode (or_fails (command_bad c s) (ltb 507 (length (message_image (Control c) s))) good).0
      (unbroken k (h.0, (h.1.0, tt))) (unbroken (mark_rules (row_for c).marked mode (access_of f)) h.1.1)

-- what stands at the front of the room, when the writer answers that it wrote
pub wrote_reads : (m : Message) (s room after : List ℕ) (r : Result ℕ Refusal) (n : ℕ) (f : Form) (required : Bool) (mode : Mode)
    → Writes (message_bad m s) (message_image m s) room r after → r ≡ Ok n → first_broken (permit_rules m f required mode) ≡ 0
    → ReadsBack m s (take n after) f required mode
wrote_reads m s room after r n f required mode w e may =
    wrote_back (λ (p : List ℕ). ReadsBack m s p f required mode) (λ good. reads_back s f required mode m good may) n w e
