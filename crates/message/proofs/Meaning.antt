-- An accepted message holds what the tables read from its bytes. Assumes nothing.
use mathlib.Core.Path.{◌≡◌, refl, sym, ap, ap₂, ◌∙◌}
use Prim.Native.Nat.{ℕ}
use mathlib.Core.Bool.{Bool, true}
use mathlib.Core.List.{List, [], ◌∷◌}
use native.Mathlib.Omega.{arith}
use lib.ListN.{length, drop, length-drop}
use lib.Seq.{take_all}
use borrow.Author.Tests.{eqb-true, ltb-false, not-false}
use Rattle.wire.specs.Numbers.{num}
use Rattle.wire.specs.Parts.{part, part_of}
use Rattle.wire.specs.Rules.{first_broken}
use Rattle.wire.specs.Content.{accepted, refused, content}
use Rattle.wire.proofs.Choice.{true_false}
use Rattle.wire.proofs.Content.{same_content}
use Rattle.wire.proofs.Fields.{part_end}
use Rattle.wire.proofs.Lists.{part_in}
use Rattle.wire.proofs.Lookup.{lookup_all, ◌also◌}
use Rattle.wire.proofs.Listed.{judge_listed}
use Rattle.access.specs.declared.Mode.{Mode}
use Rattle.control.specs.Accepts.{Accepts}
use Rattle.control.proofs.Meaning.{none_behind, row_content}
use Rattle.message.specs.Message.{message_content, message_bytes, parts_at}
use Rattle.message.specs.Table.{Row, table, no_row, type_of, access_of}
use Rattle.message.specs.Reading.{message_rules, message_of, message_at, read_message, under, body_content, table_content, message_answer, ReadsMessage}
use Rattle.message.specs.Holds.{table_bytes, MessageHolds}
use Rattle.message.specs.Accepts.{AcceptsBody}
use Rattle.message.proofs.Accepts.{message_accepts}
use Rattle.message.proofs.Reading.{message_listed}
use Rattle.message.specs.declared.Form.{Form}
use Rattle.std.specs.Prelude.{Result, Ok}
use Rattle.wire.specs.declared.refusals.Refusal.{Refusal}
use Rattle.message.specs.declared.Message.{Message}

-- what a row makes of data
record BodyHolds (n : ℕ) (r : Row) (d : List ℕ) : Type 0 where
  content : message_content (message_of r.body d) (drop (parts_at (message_of r.body d)) d) ≡ body_content n r.body d
  whole : message_bytes (message_of r.body d) (drop (parts_at (message_of r.body d)) d) ≡ table_bytes r.body d

abbrev Claim : List ℕ → Form → Mode → ℕ → Row → Type 0
Claim d f mode n r = r.listed ≡ true → AcceptsBody r.body f mode d → BodyHolds n r d

module _ (d : List ℕ) (f : Form) (mode : Mode) where
  -- nothing behind the fields, and one part there
  fixed : {n m : ℕ} (vs : List ℕ) → n ≡ m → content m vs [] ≡ content n vs []
  fixed vs e = same_content (sym e) refl refl

  one_part : {n m : ℕ} (vs : List ℕ) {s s' : List ℕ} → n ≡ m → s ≡ s' → content m vs (s ∷ []) ≡ content n vs (s' ∷ [])
  one_part vs e p = same_content (sym e) refl (ap (λ (s : List ℕ). s ∷ []) p)

  status_bytes : length d ≡ 11 → part_of d (part 2 9) ≡ drop 2 d
  status_bytes h = part_in d 2 9 (omega arith) ∙ take_all 9 (drop 2 d) (omega (arith, length-drop 2 d))

  -- a control packet: its row's
  packet_holds : {n : ℕ} → n ≡ 10 → Accepts d mode (access_of f) → BodyHolds n (type_of 10) d
  packet_holds t a =
      let w = a.permits in
      let s = row_content (drop 5 d) (num 2 1 d) w.listed w.sized w.right in
      record { content = ap₂ under (sym t) s.content; whole = s.whole }

  type_content : (n : ℕ) → Claim d f mode n (type_of n)
  type_content n =
      lookup_all (λ (r : Row). r.number) (λ (r : Row). r) no_row (Claim d f mode n) table n
      ((λ e l b. record { content = fixed _ e; whole = none_behind d 1 b.sized })
      also (λ e l b. record { content = fixed _ e; whole = none_behind d 6 b.sized })
      also (λ e l b. record { content = fixed _ e; whole = none_behind d 2 b.sized })
      also (λ e l b. let s = status_bytes (eqb-true (length d) 11 (not-false _ b.sized)) in record { content = one_part _ e s; whole = s })
      also (λ e l b. record { content = fixed _ e; whole = none_behind d 0 b.sized })
      also (λ e l b. packet_holds e b)
      also (λ e l b. let s = part_end d 2 (ltb-false _ _ b.sized) in record { content = one_part _ e s; whole = s })
      also (λ l b. true_false (sym l)))

pub message_holds : (f : Form) (required : Bool) (mode : Mode) (p : List ℕ) → first_broken (message_rules f required mode p) ≡ 0 → MessageHolds p
message_holds f required mode p e =
    let a = message_accepts f required mode p e in
    let t = type_content (drop 2 p) f mode (num 2 0 p) a.listed a.body in
    record { content = t.content; whole = t.whole }

-- the reader's promise, from the equation by cases
pub reads_message : (p : List ℕ) (f : Form) (required : Bool) (mode : Mode) {r : Result Message Refusal} → r ≡ read_message p f required mode → ReadsMessage p f required mode r
reads_message p f required mode e =
    record {
      content =
          ap (λ (r : Result Message Refusal). message_answer r p) e
          ∙ judge_listed (λ (r : Result Message Refusal). message_answer r p) refused (message_rules f required mode p) (Ok (message_at p))
          (accepted (table_content p)) (message_listed f required mode p) (λ r. refl) (λ h. ap accepted (message_holds f required mode p h).content);
      answer = e;
    }
