-- 13 and 22 come of no message: 13 is no number of its rules, and what its form and mode let through has its level's mark. Assumes nothing.
use mathlib.Core.Path.{◌≡◌, refl}
use mathlib.Core.Bool.{Bool, true, false, not, ◌||◌}
use mathlib.Core.List.{List, [], ◌∷◌}
use Prim.Native.Nat.{ℕ, ◌+◌}
use lib.ListN.{length, get_or, drop}
use lib.Dec.{eqb, ltb}
use borrow.Author.Tests.{not-false}
use Rattle.wire.specs.Numbers.{num}
use Rattle.wire.specs.Rules.{Rule, ◌when◌, first_broken, numbers, among}
use Rattle.wire.specs.Fields.{wrong_size, wrong_fields}
use Rattle.wire.proofs.Lookup.{lookup_all, ◌also◌}
use Rattle.wire.proofs.Held.{held}
use Rattle.wire.proofs.Given.{never, past_first}
use Rattle.access.specs.declared.Mode.{Mode}
use Rattle.access.specs.declared.Mode.TheVariants.{Normal}
use Rattle.control.specs.Table.{Row, table, no_row, row_of, in_mode, has_mark}
use Rattle.control.specs.Control.{control_rules, payload_rules}
use Rattle.control.specs.declared.marks.Marks.{Marks}
use Rattle.message.specs.Table.{Body, fields, packet, type_of, plain_where_required, encrypted_where_plain_only, access_of}
use Rattle.message.specs.Reading.{body_rules, message_rules}
use Rattle.message.specs.declared.Form.{Form}
use Rattle.message.specs.declared.Form.TheVariants.{Plain, Encrypted}

-- plain, or encrypted in normal mode, where alone there is an admin key
abbrev pub FormInMode : Form → Mode → Type 0
FormInMode Plain mode = Unit {0}
FormInMode Encrypted mode = mode ≡ Normal

-- every command with a mark of normal mode has admin's
admin_marked : (n : ℕ) → in_mode Normal (row_of n).marked ≡ true → (row_of n).marked.admin ≡ true
admin_marked n =
    lookup_all (λ (r : Row). r.number) (λ (r : Row). r) no_row (λ (r : Row). in_mode Normal r.marked ≡ true → r.marked.admin ≡ true) table n
    ((λ e h. h)
    also (λ e h. refl)
    also (λ e h. refl)
    also (λ e h. refl)
    also (λ e h. refl)
    also (λ e h. refl)
    also (λ e h. refl)
    also (λ e h. refl)
    also (λ e h. refl)
    also (λ e h. refl)
    also (λ e h. refl)
    also (λ e h. refl)
    also (λ e h. refl)
    also (λ e h. refl)
    also (λ e h. refl)
    also (λ e h. refl)
    also (λ e h. refl)
    also (λ h. refl))

marked : (f : Form) (mode : Mode) → FormInMode f mode → (n : ℕ) → in_mode mode (row_of n).marked ≡ true → has_mark (access_of f) (row_of n).marked ≡ true
marked Plain mode o n h = refl
marked Encrypted mode o n h = admin_marked n (rw o at h)

-- a control packet
packet_never : (f : Form) (mode : Mode) → FormInMode f mode → (d : List ℕ) → first_broken (control_rules d mode (access_of f)) ≡ 22 → ⊥
packet_never f mode o d e =
    let n : ℕ = num 2 1 d in
    let k : Marks = (row_of n).marked in
    let xs : List Rule =
    (18 when not (eqb (length d) (5 + num 2 3 d))) ∷ (19 when not (eqb (get_or d 0 0) 5)) ∷ (20 when not (row_of n).listed) ∷ (21 when not (in_mode mode k)) ∷ [] in
    let ys : List Rule = payload_rules (row_of n).payload (drop 5 d) in
    let x = past_first xs ((22 when not (has_mark (access_of f) k)) ∷ ys) 21 refl e in
    let m : has_mark (access_of f) k ≡ true = marked f mode o n (not-false _ (held xs (tt, (tt, (tt, (tt, tt)))) x.0).1.1.1.0) in
    never ys 21 refl (rw m at x.1)

body_never : (b : Body) (f : Form) (mode : Mode) → FormInMode f mode → (d : List ℕ) → first_broken (body_rules b f mode d) ≡ 22 → ⊥
body_never (fields l make) f mode o d e = never ((17 when (wrong_size l.size d || wrong_fields l d)) ∷ []) 21 refl e
body_never packet f mode o d e = packet_never f mode o d e

pub message_never : (f : Form) (required : Bool) (mode : Mode) → FormInMode f mode → (m : List ℕ) → first_broken (message_rules f required mode m) ≡ 22 → ⊥
message_never f required mode o m e =
    let r = type_of (num 2 0 m) in
    let xs : List Rule =
    (14 when (ltb (length m) 2 || not r.listed)) ∷ (15 when plain_where_required r.allowed f required) ∷ (16 when encrypted_where_plain_only r.allowed f) ∷ [] in
    body_never r.body f mode o (drop 2 m) (past_first xs (body_rules r.body f mode (drop 2 m)) 21 refl e).1

-- ---- 13 is no number of theirs
body_lacks_13 : (b : Body) (f : Form) (mode : Mode) (d : List ℕ) → among 13 (numbers (body_rules b f mode d)) ≡ false
body_lacks_13 (fields l make) f mode d = refl
body_lacks_13 packet f mode d = refl

pub message_lacks_13 : (f : Form) (required : Bool) (mode : Mode) (m : List ℕ) → among 13 (numbers (message_rules f required mode m)) ≡ false
message_lacks_13 f required mode m = body_lacks_13 (type_of (num 2 0 m)).body f mode (drop 2 m)
