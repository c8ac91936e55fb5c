-- An entry stands for the event packed in it. Assumes nothing.
use mathlib.Core.Path.{◌≡◌, refl, sym, ap, ◌∙◌}
use mathlib.Core.List.{List, [], ◌∷◌, append-nil}
use Prim.Native.Nat.{ℕ, ◌<◌}
use native.Mathlib.Omega.{arith}
use lib.ListN.{get_or}
use borrow.Author.Tests.{ne_eqb, le-leb, lt-ltb}
use mathlib.Core.Bool.{false}
use Rattle.wire.specs.Fields.{encode, values_at, unfit}
use Rattle.wire.specs.Numbers.{Bytes}
use Rattle.wire.proofs.Numbers.{bytes_none, bytes_cons, le_num}
use Rattle.wire.proofs.Fields.{values_back}
use Rattle.line.specs.Line.{refusal, frame}
use Rattle.capture.specs.Entry.{entry_fields, packed, values_of, event_by, EntryBack}

-- bytes, one by one
EachByte : List ℕ → Type 0
EachByte [] = Unit {0}
EachByte (b ∷ bs) = (b < 256) × EachByte bs

bytes_of : (bs : List ℕ) → EachByte bs → Bytes bs
unfolding EachByte
bytes_of [] h = bytes_none
bytes_of (b ∷ bs) h = bytes_cons bs h.0 (bytes_of bs h.1)

-- the fields of an entry are read as they were put
values_of_lem : (kind count major minor wrapper offset : ℕ) → kind < 256 → count < 65536 → major < 256 → minor < 256 → wrapper < 256 → offset < 65536
    → values_of (packed (kind ∷ count ∷ major ∷ minor ∷ wrapper ∷ offset ∷ [])) ≡ kind ∷ count ∷ major ∷ minor ∷ wrapper ∷ offset ∷ []
unfolding EachByte
values_of_lem kind count major minor wrapper offset hk hc ha hi hw ho =
    let vs : List ℕ = kind ∷ count ∷ major ∷ minor ∷ wrapper ∷ offset ∷ [] in
    let bs : List ℕ = encode entry_fields vs in
    let u : unfit entry_fields vs ≡ false = simp (lt-ltb _ _ hk, lt-ltb _ _ hc, lt-ltb _ _ ha, lt-ltb _ _ hi, lt-ltb _ _ hw, lt-ltb _ _ ho) in
    let h : Bytes bs = bytes_of bs (hk, (omega arith, (omega arith, (ha, (hi, (hw, (omega arith, (omega arith, tt)))))))) in
    ap (values_at entry_fields 0) (le_num bs h 8 0 (omega arith) ∙ sym (append-nil bs)) ∙ values_back entry_fields vs [] [] 0 refl u

pub entry_back : EntryBack
unfolding event_by
entry_back offset (refusal n place) o h =
    let v = values_of_lem n place 0 0 0 offset (omega (arith, h.1)) h.2 (omega arith) (omega arith) (omega arith) o in
    let five : n ≡ 5 → ⊥ = omega (arith, h.1) in
    (ap (λ (vs : List ℕ). event_by (get_or vs 0 0) vs) v ∙ simp (ne_eqb _ _ five, le-leb _ _ h.0, le-leb _ _ h.1), ap (λ (vs : List ℕ). get_or vs 5 0) v)
entry_back offset (frame major minor wrapper len payload) o h =
    let v = values_of_lem 5 len major minor wrapper offset (omega arith) h.3 h.0 h.1 h.2 o in
    (ap (λ (vs : List ℕ). event_by (get_or vs 0 0) vs) v, ap (λ (vs : List ℕ). get_or vs 5 0) v)
