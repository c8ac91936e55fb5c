-- The reader's rules, group by group. Assumes nothing.
use mathlib.Core.Path.{◌≡◌, sym, ap, ◌∙◌}
use Prim.Native.Nat.{ℕ}
use mathlib.Core.Bool.{true}
use mathlib.Core.List.{List}
use lib.ListN.{drop}
use borrow.Author.Tests.{eqb-true, eq-eqb, not-false}
use Rattle.wire.specs.Numbers.{num}
use Rattle.wire.specs.Rules.{judge, first_broken}
use Rattle.wire.proofs.Rules.{judge_append}
use Rattle.wire.proofs.Held.{held, unbroken}
use Rattle.access.specs.declared.Mode.{Mode}
use Rattle.access.specs.declared.Access.{Access}
use Rattle.control.specs.Table.{Row, row_of}
use Rattle.control.specs.Control.{length_rules, command_rules, control_rules, row_rules, mark_rules, payload_rules, command_of, command_at, read_control, read_command, read_row, read_payload}
use Rattle.control.specs.Accepts.{Permits, Accepts}
use Rattle.std.specs.Prelude.{Result, Ok}
use Rattle.wire.specs.declared.refusals.Refusal.{Refusal}
use Rattle.control.specs.declared.Command.{Command}
use Rattle.wire.specs.Refusals.{refusing}

-- a listed command: its marks, then its payload
pub row_read : (r : Row) (q : List ℕ) (m : Mode) (a : Access) {read answer : Result Command Refusal} → r.listed ≡ true → read ≡ read_payload r q
    → answer ≡ judge refusing (mark_rules r.marked m a) read → answer ≡ read_row r q m a
row_read r q m a l e h =
    h ∙ ap (judge refusing (mark_rules r.marked m a)) e
    ∙ sym (judge_append refusing (mark_rules r.marked m a) (payload_rules r.payload q) (Ok (command_of r q)))
    ∙ sym (rw l)

-- 18, then the rest
pub control_read : (p : List ℕ) (m : Mode) (a : Access) → read_control p m a ≡ judge refusing (length_rules p) (read_command p m a)
control_read p m a = judge_append refusing (length_rules p) (command_rules p m a) (Ok (command_at p))

-- ---- no rule is broken
pub row_permits : (r : Row) (q : List ℕ) (m : Mode) (a : Access) → first_broken (row_rules r q m a) ≡ 0 → Permits r q m a
row_permits r q m a e =
    let h = held (row_rules r q m a) (tt, (tt, (tt, (tt, (tt, tt))))) e in
    record {
      listed = not-false _ h.0;
      mode = not-false _ h.1.0;
      level = not-false _ h.1.1.0;
      sized = h.1.1.1.0;
      right = h.1.1.1.1.0;
    }

pub row_clear : (r : Row) (q : List ℕ) (m : Mode) (a : Access) → Permits r q m a → first_broken (row_rules r q m a) ≡ 0
row_clear r q m a w = rw (w.listed, w.mode, w.level, w.sized, w.right)

pub control_accepts : (p : List ℕ) (m : Mode) (a : Access) → first_broken (control_rules p m a) ≡ 0 → Accepts p m a
control_accepts p m a e =
    let r = row_rules (row_of (num 2 1 p)) (drop 5 p) m a in
    let h = held (control_rules p m a) (tt, (tt, (tt, (tt, (tt, (tt, (tt, tt))))))) e in
    record {
      long = eqb-true _ _ (not-false _ h.0);
      protocol = eqb-true _ _ (not-false _ h.1.0);
      permits = row_permits (row_of (num 2 1 p)) (drop 5 p) m a (unbroken r h.1.1);
    }

pub control_clear : (p : List ℕ) (m : Mode) (a : Access) → Accepts p m a → first_broken (control_rules p m a) ≡ 0
control_clear p m a w =
    rw (eq-eqb _ _ w.long, eq-eqb _ _ w.protocol) (row_clear (row_of (num 2 1 p)) (drop 5 p) m a w.permits)
