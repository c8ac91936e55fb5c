-- A command that a row made holds what the row reads of a payload. Assumes nothing.
use mathlib.Core.Path.{◌≡◌, refl, sym, ap, ◌∙◌}
use Prim.Native.Nat.{ℕ, ◌+◌, ◌-◌, ◌*◌, ◌≤◌, ◌<◌}
use mathlib.Core.Bool.{Bool, true, false, not, ◌||◌}
use mathlib.Core.List.{List, [], ◌∷◌, ◌++◌}
use native.Mathlib.Omega.{arith}
use lib.ListN.{length, get_or, take, drop, length-drop, take-append-drop}
use lib.Seq.{drop-drop}
use borrow.Author.Tests.{eqb-true, lt-ltb, ltb-false, not-false}
use lib.Dec.{eqb, ltb}
use Rattle.wire.specs.Numbers.{num}
use Rattle.wire.specs.Parts.{part, part_of}
use Rattle.wire.specs.Rules.{first_broken}
use Rattle.wire.specs.Content.{accepted, refused, content}
use Rattle.wire.specs.Fields.{Layout, widths, wrong_size, wrong_at, wrong_fields, content_by}
use Rattle.wire.proofs.Choice.{or_fails, true_false}
use Rattle.wire.proofs.Content.{same_content}
use Rattle.wire.proofs.Fields.{part_end}
use Rattle.wire.proofs.Lists.{part_in, nil_of}
use Rattle.wire.proofs.Lookup.{lookup_all, ◌also◌}
use Rattle.wire.proofs.Listed.{judge_listed}
use Rattle.wire.proofs.Signed.{unsigned_signed}
use Rattle.access.specs.declared.Mode.{Mode}
use Rattle.access.specs.declared.Access.{Access}
use Rattle.control.specs.Command.{command_content, command_bytes, key_part}
use Rattle.control.specs.Table.{Row, table, no_row, row_of, state}
use Rattle.control.specs.Control.{control_rules, command_of, command_at, read_control, control_content, control_answer, ReadsControl}
use Rattle.control.specs.Accepts.{CommandHolds}
use Rattle.control.proofs.Reading.{control_accepts}
use Rattle.control.specs.declared.Command.{Command}
use Rattle.std.specs.Prelude.{Result, Ok}
use Rattle.wire.specs.declared.refusals.Refusal.{Refusal}

-- nothing stands behind a payload of exactly so many bytes
pub none_behind : (q : List ℕ) (k : ℕ) → not (eqb (length q) k) ≡ false → [] ≡ drop k q
none_behind q k h = sym (nil_of (drop k q) (omega (arith, length-drop k q, eqb-true (length q) k (not-false _ h))))

holding : {n : ℕ} {l : Layout} {q : List ℕ} {c : Command} → (command_content c q ≡ content_by n l q) × (command_bytes c q ≡ drop (widths l.fields) q) → CommandHolds n l q c
holding h = record { content = h.0; whole = h.1 }

-- the only number that a field takes
only : (v k : ℕ) (others : Bool) → not (eqb v k) || others ≡ false → k ≡ v
only v k others h = sym (eqb-true v k (not-false _ (or_fails _ others h).0))

-- what is claimed of a row
abbrev Claim : List ℕ → ℕ → Row → Type 0
Claim q n r =
    r.listed ≡ true → wrong_size r.payload.size q ≡ false → wrong_fields r.payload q ≡ false → CommandHolds n r.payload q (command_of r q)

module _ (q : List ℕ) where
  setup_parts : 98 ≤ length q → part_of q (part 2 96) ∷ part_of q (part 98 (length q - 98)) ∷ [] ≡ take 96 (drop 2 q) ∷ drop 96 (drop 2 q) ∷ []
  setup_parts h = rw (part_in q 2 96 (omega arith), part_end q 98 h, ← drop-drop 96 2 q)

  setup_bytes : 98 ≤ length q → part_of q (part 2 96) ++ part_of q (part 98 (length q - 98)) ≡ drop 2 q
  setup_bytes h =
      rw (part_in q 2 96 (omega arith), part_end q 98 h, ← drop-drop 96 2 q) (take-append-drop 96 (drop 2 q))

  -- get state's and set state's reserved 0
  reserved : (most : ℕ) → wrong_at (state most) 0 q || false ≡ false → 0 ≡ get_or q 5 0
  reserved most h =
      let a = or_fails (ltb most (get_or q 4 0) || (not (eqb (get_or q 5 0) 0) || false)) false h in
      only (get_or q 5 0) 0 false (or_fails (ltb most (get_or q 4 0)) (not (eqb (get_or q 5 0) 0) || false) a.0).1

  -- one part, from a place to the end
  one_part : (k : ℕ) → k ≤ length q → part_of q (part k (length q - k)) ∷ [] ≡ drop k q ∷ []
  one_part k h = ap (λ (s : List ℕ). s ∷ []) (part_end q k h)

  -- no part, and nothing behind so many bytes of fields
  fixed : {n m : ℕ} {vs vs' : List ℕ} (k : ℕ) → n ≡ m → vs ≡ vs' → not (eqb (length q) k) ≡ false
      → (content m vs [] ≡ content n vs' []) × ([] ≡ drop k q)
  fixed k e v z = (same_content (sym e) v refl, none_behind q k z)

  -- each row's command holds what the row reads
  pub row_content : (n : ℕ) → Claim q n (row_of n)
  row_content n =
      lookup_all (λ (r : Row). r.number) (λ (r : Row). r) no_row (Claim q n) table n
      ((λ e l z f. let h = ltb-false _ _ z in holding (same_content (sym e) refl (setup_parts h), setup_bytes h))
      also (λ e l z f. holding (fixed 4 e (ap (λ (v : ℕ). v ∷ []) (only (num 4 0 q) 0xDEADBEEF false (or_fails _ false f).0)) z))
      also (λ e l z f. holding (fixed 6 e (ap (λ (v : ℕ). num 2 0 q ∷ num 2 2 q ∷ get_or q 4 0 ∷ v ∷ []) (reserved 2 f)) z))
      also (λ e l z f. let h = ltb-false _ _ z in holding (same_content (sym e) (ap (λ (v : ℕ). num 2 0 q ∷ num 2 2 q ∷ get_or q 4 0 ∷ v ∷ []) (reserved 1 f)) (one_part 6 h), part_end q 6 h))
      also (λ e l z f. holding (fixed 0 e refl z))
      also (λ e l z f. holding (fixed 0 e refl z))
      also (λ e l z f. holding (fixed 7 e refl z))
      also (λ e l z f. holding (fixed 0 e refl z))
      also (λ e l z f. holding (fixed 0 e refl z))
      also (λ e l z f. holding (fixed 0 e refl z))
      also (λ e l z f. holding (fixed 0 e refl z))
      also (λ e l z f. holding (fixed 1 e refl z))
      also (λ e l z f. let h : 1 ≤ length q = omega (arith, eqb-true (length q) (1 + 2 * get_or q 0 0) (not-false _ z)) in holding (same_content (sym e) refl (one_part 1 h), part_end q 1 h))
      also (λ e l z f. holding (fixed 11 e (ap (λ (v : ℕ). num 2 0 q ∷ get_or q 2 0 ∷ get_or q 3 0 ∷ v ∷ get_or q 5 0 ∷ num 3 6 q ∷ num 2 9 q ∷ []) (unsigned_signed (get_or q 4 0))) z))
      also (λ e l z f. holding (fixed 7 e refl z))
      also (λ e l z f. holding (fixed 0 e refl z))
      also (λ e l z f. holding (fixed 0 e refl z))
      also (λ l z f. true_false (sym l)))

-- setup's six keys stand behind stone and sphere, 16 bytes each
pub key_bytes : (q : List ℕ) (i : ℕ) → 98 ≤ length q → i < 6 → part_of q (key_part (part 2 96) i) ≡ take 16 (drop (2 + 16 * i) q)
key_bytes q i h k = rw (lt-ltb i 6 k) (part_in q (2 + 16 * i) 16 (omega arith))

-- ---- the reader
-- a packet that none of 18 to 24 refuses
pub packet_content : (p : List ℕ) (m : Mode) (a : Access) → first_broken (control_rules p m a) ≡ 0 → command_content (command_at p) (drop 5 p) ≡ control_content p
packet_content p m a e =
    let w = (control_accepts p m a e).permits in
    (row_content (drop 5 p) (num 2 1 p) w.listed w.sized w.right).content

-- its promise, from the equation by cases
pub reads_control : (p : List ℕ) (m : Mode) (a : Access) {r : Result Command Refusal} → r ≡ read_control p m a → ReadsControl p m a r
reads_control p m a e =
    record {
      content =
          ap (λ (r : Result Command Refusal). control_answer r p) e
          ∙ judge_listed (λ (r : Result Command Refusal). control_answer r p) refused (control_rules p m a) (Ok (command_at p)) (accepted (control_content p))
          (tt, (tt, (tt, (tt, (tt, (tt, (tt, tt))))))) (λ r. refl) (λ h. ap accepted (packet_content p m a h));
      answer = e;
    }
