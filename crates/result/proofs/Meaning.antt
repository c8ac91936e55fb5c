-- A result that was read holds what its packet holds. Assumes nothing.
use mathlib.Core.Path.{◌≡◌, refl, sym, ap, ◌∙◌}
use Prim.Native.Nat.{ℕ, ◌+◌}
use mathlib.Core.Bool.{Bool, true, false, ◌||◌}
use mathlib.Core.List.{List, [], ◌∷◌}
use native.Mathlib.Omega.{arith}
use lib.ListN.{length, drop}
use lib.Dec.{eqb}
use borrow.Author.Tests.{eqb-true, ne_eqb, le-ltb, not-false}
use Rattle.wire.specs.Choice.{pick}
use Rattle.wire.specs.Numbers.{num}
use Rattle.wire.specs.Parts.{part_of}
use Rattle.wire.specs.Rules.{first_broken}
use Rattle.std.specs.Prelude.{Result, Ok}
use Rattle.wire.specs.declared.refusals.Refusal.{Refusal}
use Rattle.wire.specs.Content.{accepted, refused, content}
use Rattle.wire.specs.Fields.{wrong_size, content_by}
use Rattle.wire.proofs.Choice.{true_false}
use Rattle.wire.proofs.Content.{accepted_is}
use Rattle.wire.proofs.Fields.{part_end}
use Rattle.wire.proofs.Held.{held}
use Rattle.wire.proofs.Lookup.{lookup_all, ◌also◌}
use Rattle.wire.proofs.Listed.{judge_listed}
use Rattle.result.specs.Result.{Outcome, done, waiting, failed, code_means, is_done, anything, Row, table, other_row, row_of, payload_for, made, result_rules, resulting, result_content, read_content, result_answer, case_for, outcome_of, result_at, read_result, ReadsResult}
use Rattle.result.specs.declared.ResultPacket.{ResultPacket}
use Rattle.result.specs.declared.PresenceResult.{PresenceResult}
use Rattle.result.specs.declared.UptimeResult.{UptimeResult}
use Rattle.result.specs.declared.ResultRead.{ResultRead}
use Rattle.result.specs.declared.ResultRead.TheVariants.{Presence, Uptime}

-- ---- outcomes
pub is_done_lem : (o : Outcome) → is_done o ≡ true → o ≡ done
is_done_lem done e = refl
is_done_lem waiting e = true_false (sym e)
is_done_lem failed e = true_false (sym e)

-- a code that means neither done nor waiting means failed
pub else_failed : (code : ℕ) → is_done (code_means code) ≡ false → (code ≡ 1 → ⊥) → code_means code ≡ failed
else_failed code e k = first (eqb code 0 || eqb code 2) e ∙ rw (ne_eqb code 1 k)
  where
    first : (t : Bool) {o : Outcome} → is_done (pick t done o) ≡ false → pick t done o ≡ o
    first true d = true_false d
    first false d = refl

-- ---- payloads
-- the length of a payload that is not a done result's is not asked about
pub when_not : (o : Outcome) (n : ℕ) (q : List ℕ) → is_done o ≡ false → wrong_size (payload_for o n).size q ≡ false
when_not done n q e = true_false e
when_not waiting n q e = le-ltb (length q) 0 (omega arith)
when_not failed n q e = le-ltb (length q) 0 (omega arith)

-- each case holds what the payload's bytes q hold, where the result's part names them in s
module _ (r : ResultPacket) (s q : List ℕ) (named : part_of s r.payload ≡ q) where
  as_part : (o : Outcome) → resulting o r.code (content r.command [] (part_of s r.payload ∷ [])) ≡ resulting o r.code (content_by r.command anything q)
  as_part o = ap (λ (b : List ℕ). resulting o r.code (content r.command [] (b ∷ []))) named

  -- what is claimed of a row
  abbrev Claim : Row → Type 0
  Claim w = read_content (made w r q) s ≡ resulting done r.code (content_by r.command w.payload q)

  -- each row's answer holds what the row reads
  row_content : Claim (row_of r.command)
  row_content =
      lookup_all (λ (w : Row). w.command) (λ (w : Row). w) other_row Claim table r.command
      ((λ e. rw e)
      also (λ e. rw e)
      also as_part done)

  pub case_content : (o : Outcome) → read_content (case_for o r q) s ≡ resulting o r.code (content_by r.command (payload_for o r.command) q)
  case_content done = row_content
  case_content waiting = as_part waiting
  case_content failed = as_part failed

-- ---- the reader
-- a packet that none of 18, 19 and 23 refuses
result_content_lem : (p : List ℕ) → first_broken (result_rules p) ≡ 0 → read_content (outcome_of (result_at p) (drop 7 p)) p ≡ result_content p
result_content_lem p e =
    let h = held (result_rules p) (tt, (tt, (tt, tt))) e in
    let l = eqb-true (length p) (7 + num 2 5 p) (not-false _ h.0) in
    case_content (result_at p) p (drop 7 p) (part_end p 7 (omega arith)) (code_means (num 2 3 p))

-- the reader's promise, from the equation by cases
pub reads_result : (p : List ℕ) {r : Result ResultRead Refusal} → r ≡ read_result p → ReadsResult p r
reads_result p e =
    record {
      content =
          ap (λ (r : Result ResultRead Refusal). result_answer r p) e
          ∙ judge_listed (λ (r : Result ResultRead Refusal). result_answer r p) refused (result_rules p) (Ok (outcome_of (result_at p) (drop 7 p)))
          (accepted (result_content p)) (tt, (tt, (tt, tt))) (λ r. refl) (λ h. ap accepted (result_content_lem p h));
      answer = e;
    }

-- masks and an uptime come of no packet but a done one of their command, which holds just these numbers
pub presence_only : (p : List ℕ) (r : PresenceResult) → read_result p ≡ Ok (Presence r)
    → result_content p ≡ resulting done r.code (content 72 r.masks [])
presence_only p r e = accepted_is (first_broken (result_rules p)) (sym (reads_result p (sym e)).content)

pub uptime_only : (p : List ℕ) (r : UptimeResult) → read_result p ≡ Ok (Uptime r) → result_content p ≡ resulting done r.code (content 80 (r.uptime.0 ∷ []) [])
uptime_only p r e = accepted_is (first_broken (result_rules p)) (sym (reads_result p (sym e)).content)
