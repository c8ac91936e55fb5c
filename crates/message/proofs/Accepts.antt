-- 14 to 24 test just demand 2's conditions of a message. Assumes nothing.
use mathlib.Core.Path.{◌≡◌}
use mathlib.Core.Bool.{Bool, not, ◌||◌}
use mathlib.Core.List.{List, [], ◌∷◌}
use Prim.Native.Nat.{ℕ}
use lib.ListN.{length, drop}
use lib.Dec.{ltb}
use borrow.Author.Tests.{le-ltb, ltb-false, not-false}
use Rattle.wire.specs.Numbers.{num}
use Rattle.wire.specs.Rules.{◌when◌, first_broken}
use Rattle.wire.specs.Fields.{wrong_size, wrong_fields}
use Rattle.wire.proofs.Choice.{or_fails}
use Rattle.wire.proofs.Rules.{first_none}
use Rattle.access.specs.declared.Mode.{Mode}
use Rattle.control.proofs.Reading.{control_accepts, control_clear}
use Rattle.message.specs.Table.{Body, fields, packet, type_of, plain_where_required, encrypted_where_plain_only, access_of}
use Rattle.message.specs.Reading.{body_rules, type_rules, message_rules}
use Rattle.message.specs.Accepts.{AcceptsBody, AcceptsMessage}
use Rattle.message.specs.declared.Form.{Form}

body_accepts : (b : Body) (f : Form) (mode : Mode) (d : List ℕ) → first_broken (body_rules b f mode d) ≡ 0 → AcceptsBody b f mode d
body_accepts (fields l make) f mode d e =
    let o = or_fails (wrong_size l.size d) (wrong_fields l d) (first_none 16 (wrong_size l.size d || wrong_fields l d) [] e).0 in
    record { sized = o.0; right = o.1 }
body_accepts packet f mode d e = control_accepts d mode (access_of f) e

body_clear : (b : Body) (f : Form) (mode : Mode) (d : List ℕ) → AcceptsBody b f mode d → first_broken (body_rules b f mode d) ≡ 0
body_clear (fields l make) f mode d w = rw (w.sized, w.right)
body_clear packet f mode d w = control_clear d mode (access_of f) w

module _ (f : Form) (required : Bool) (mode : Mode) (m : List ℕ) where
  pub message_accepts : first_broken (message_rules f required mode m) ≡ 0 → AcceptsMessage f required mode m
  message_accepts e =
      let r = type_of (num 2 0 m) in
      let rest = body_rules r.body f mode (drop 2 m) in
      let x14 = first_none 13 (ltb (length m) 2 || not r.listed) (type_rules r f required mode (drop 2 m)) e in
      let x15 = first_none 14 (plain_where_required r.allowed f required) ((16 when encrypted_where_plain_only r.allowed f) ∷ rest) x14.1 in
      let x16 = first_none 15 (encrypted_where_plain_only r.allowed f) rest x15.1 in
      let o = or_fails (ltb (length m) 2) (not r.listed) x14.0 in
      record {
        typed = ltb-false _ _ o.0;
        listed = not-false r.listed o.1;
        plain_permitted = x15.0;
        encrypted_permitted = x16.0;
        body = body_accepts r.body f mode (drop 2 m) x16.1;
      }

  pub message_clear : AcceptsMessage f required mode m → first_broken (message_rules f required mode m) ≡ 0
  message_clear w =
      rw (le-ltb (length m) 2 w.typed, w.listed, w.plain_permitted, w.encrypted_permitted) (body_clear (type_of (num 2 0 m)).body f mode (drop 2 m) w.body)
