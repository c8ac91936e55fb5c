-- What the writers of result packets wrote is read back. Assumes nothing.
use mathlib.Core.Path.{◌≡◌, refl, ap, subst, ◌∙◌}
use Prim.Native.Nat.{ℕ, ◌+◌, ◌-◌}
use mathlib.Core.Bool.{false, not, ◌||◌}
use mathlib.Core.List.{List, [], ◌∷◌}
use native.Mathlib.Omega.{arith}
use lib.ListN.{length, take}
use lib.Dec.{ltb}
use borrow.Author.Tests.{eq-eqb, not-false}
use Rattle.wire.specs.Numbers.{num}
use Rattle.wire.specs.Content.{accepted, content}
use Rattle.wire.specs.Parts.{part, part_of}
use Rattle.wire.specs.Fields.{wrong_size, past, body_of, unreadable}
use Rattle.wire.specs.Writing.{Writes}
use Rattle.std.specs.Prelude.{Result, Ok}
use Rattle.wire.specs.declared.refusals.Refusal.{Refusal}
use Rattle.wire.proofs.Choice.{or_fails}
use Rattle.wire.proofs.Fields.{Readable, readable, part_length, part_end}
use Rattle.wire.proofs.Writers.{wrote_back}
use Rattle.result.specs.Result.{Outcome, done, code_means, is_done, masks_of, row_of, payload_for, payload_of, resulting, read_content, result_answer, case_for, outcome_of, result_at, read_result}
use Rattle.result.specs.Image.{result_bytes, result_bad, result_image, fields_bad, fields_image, presence_bad, presence_image, uptime_bad, uptime_image, moved, ReadsBack, FieldsBack, PresenceBack, UptimeBack}
use Rattle.result.proofs.Meaning.{is_done_lem, case_content}
use Rattle.result.specs.declared.ResultPacket.{ResultPacket}
use Rattle.result.specs.declared.PresenceResult.{PresenceResult}
use Rattle.result.specs.declared.UptimeResult.{UptimeResult}
use Rattle.result.specs.declared.ResultRead.{ResultRead}
use Rattle.result.specs.declared.ResultRead.TheVariants.{Presence}

-- ---- a packet around any payload
module _ (n code : ℕ) (q : List ℕ) where
  -- the result that stands in it
  abbrev placed : ResultPacket
  placed = record { command = n; code = code; payload = part 7 (length q) }

  at : result_at (result_bytes n code q) ≡ placed
  at =
      let p = result_bytes n code q in
      let e1 : num 2 1 p ≡ n = omega arith in
      let e2 : num 2 3 p ≡ code = omega arith in
      let e3 : length p - 7 ≡ length q = omega arith in
      rw (e1, e2, e3)

  answered : wrong_size (payload_of n code).size q ≡ false → read_result (result_bytes n code q) ≡ Ok (outcome_of placed q)
  answered h =
      let p = result_bytes n code q in
      let k : wrong_size (payload_of (num 2 1 p) (num 2 3 p)).size q ≡ false = ap (λ (r : ResultPacket). wrong_size (payload_of r.command r.code).size q) at ∙ h in
      rw (eq-eqb (length p) (7 + num 2 5 p) (omega arith), k) (ap (λ (r : ResultPacket). Ok (outcome_of r q)) at)

-- ---- a payload that is a part of bytes
module _ (r : ResultPacket) (s : List ℕ) (good : result_bad r s ≡ false) where
  pub reads_back : ReadsBack r s (result_image r s)
  reads_back =
      let p = result_image r s in
      let q = part_of s r.payload in
      let o = or_fails (past s r.payload || wrong_size (payload_of r.command r.code).size q) (ltb 65535 (length q)) good in
      let o2 = or_fails (past s r.payload) (wrong_size (payload_of r.command r.code).size q) o.0 in
      let e = answered r.command r.code q o2.1 ∙ ap (λ (l : ℕ). Ok (outcome_of (record { command = r.command; code = r.code; payload = part 7 l }) q)) (part_length s r.payload o2.0) in
      record {
        content =
            ap (λ (x : Result ResultRead Refusal). result_answer x p) e
            ∙ ap accepted (case_content (moved r) p q (ap (λ (l : ℕ). part_of p (part 7 l)) (omega (arith, part_length s r.payload o2.0)) ∙ part_end p 7 (omega arith)) (code_means r.code));
        answer = e;
      }

-- ---- a payload of fields: the one round trip over a list of fields, cited
module _ (n code : ℕ) (vs : List ℕ) (good : fields_bad n code vs ≡ false) where
  abbrev body : List ℕ
  body = body_of (payload_for done n) vs [] []

  judged : (not (is_done (code_means code)) ≡ false) × (unreadable (payload_for done n) vs [] [] [] ≡ false)
  judged = or_fails (not (is_done (code_means code))) (unreadable (payload_for done n) vs [] [] []) good

  means : code_means code ≡ done
  means = is_done_lem (code_means code) (not-false _ judged.0)

  fits : Readable (payload_for done n) vs [] [] []
  fits = readable (payload_for done n) vs [] [] [] judged.1

  row_back : read_result (fields_image n code vs) ≡ Ok ((row_of n).make (placed n code body) vs)
  row_back =
      answered n code body (ap (λ (o : Outcome). wrong_size (payload_for o n).size body) means ∙ fits.sized)
      ∙ ap (λ (o : Outcome). Ok (case_for o (placed n code body) body)) means
      ∙ ap (λ (v : List ℕ). Ok ((row_of n).make (placed n code body) v)) fits.values

  -- the answer that the row makes
  fields_back : {given : ResultRead} → (row_of n).make (placed n code body) vs ≡ given
      → read_content given (fields_image n code vs) ≡ resulting done code (content n vs []) → FieldsBack n code vs given (fields_image n code vs)
  fields_back e c =
      record {
        content = ap (λ (x : Result ResultRead Refusal). result_answer x (fields_image n code vs)) (row_back ∙ ap Ok e) ∙ ap accepted c;
        answer = row_back ∙ ap Ok e;
      }

pub presence_back : (r : PresenceResult) → presence_bad r ≡ false → PresenceBack r (presence_image r)
presence_back r good =
    let eight : masks_of r.masks ≡ r.masks = subst (λ (v : List ℕ). masks_of v ≡ v) (fits 72 r.code r.masks good).values refl in
    fields_back 72 r.code r.masks good (ap (λ (v : List ℕ). Presence (record { code = r.code; masks = v })) eight) refl

pub uptime_back : (r : UptimeResult) → uptime_bad r ≡ false → UptimeBack r (uptime_image r)
uptime_back r good = fields_back 80 r.code (r.uptime.0 ∷ []) good refl refl

-- ---- what stands at the front of the room, when a writer answers that it wrote
module _ (n : ℕ) {room : List ℕ} {answer : Result ℕ Refusal} {after : List ℕ} where
  pub wrote_reads : (r : ResultPacket) (s : List ℕ) → Writes (result_bad r s) (result_image r s) room answer after → answer ≡ Ok n → ReadsBack r s (take n after)
  wrote_reads r s w e = wrote_back (ReadsBack r s) (reads_back r s) n w e

  pub wrote_presence : (r : PresenceResult) → Writes (presence_bad r) (presence_image r) room answer after → answer ≡ Ok n → PresenceBack r (take n after)
  wrote_presence r w e = wrote_back (PresenceBack r) (presence_back r) n w e

  pub wrote_uptime : (r : UptimeResult) → Writes (uptime_bad r) (uptime_image r) room answer after → answer ≡ Ok n → UptimeBack r (take n after)
  wrote_uptime r w e = wrote_back (UptimeBack r) (uptime_back r) n w e
