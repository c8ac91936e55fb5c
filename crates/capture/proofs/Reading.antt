-- What stands in list and buffer, read back. Assumes nothing.
use mathlib.Core.Path.{◌≡◌, refl, sym, ap, ap₂, ◌∙◌, subst}
use mathlib.Core.List.{List, [], ◌∷◌, ◌++◌, append_assoc, map, flatten}
use mathlib.Core.Bool.{Bool, true, false, ◌||◌}
use Prim.Native.Nat.{ℕ, zero, suc, ◌+◌, ◌-◌, ◌≤◌, ◌<◌}
use native.Mathlib.Omega.{arith}
use lib.ListN.{length, take, drop, get_or, length-append, get_or-append, get_or-map}
use lib.Seq.{split_at, take-append-le, take_at, drop_at}
use lib.Bits.{bit_xor, xor_lt}
use lib.Dec.{eqb, ltb}
use borrow.Author.Tests.{lt-leb, ltb-false}
use Rattle.std.specs.Prelude.{Some}
use Rattle.wire.specs.Choice.{pick}
use Rattle.wire.specs.Numbers.{Bytes, num}
use Rattle.wire.proofs.Choice.{pick_all}
use Rattle.wire.proofs.Numbers.{bytes_none, bytes_cons, bytes_tail}
use Rattle.wire.proofs.Lists.{part_in}
use Rattle.wire.specs.Parts.{part, part_of}
use Rattle.wire.specs.Rules.{Rule}
use Rattle.wire.specs.Writing.{no_room}
use Rattle.wire.proofs.Rules.{first_none, judge_pass}
use Rattle.wire.proofs.Listed.{judged_ok}
use Rattle.crc.specs.Crc.{crc_of}
use Rattle.line.specs.Receive.{within, fresh_receiver}
use Rattle.line.specs.Line.{Emitted, refusal, frame}
use Rattle.capture.specs.Ahead.{Ahead, whole, start, bad_escape, end, before, behind_escape, ahead}
use Rattle.capture.specs.Capture.{events_ahead, checked, sized, behind_start, Found, found_at, found_from, decoded}
use Rattle.capture.specs.Entry.{entry, without_payload, event_of, offset_of, payload_length, payload_total, payload_part}
use Rattle.capture.specs.Answer.{found_payload, entries_in, entries_of, payloads_in, payloads_of, capture_rules}
use Rattle.capture.specs.Agreement.{run_from}
use Rattle.capture.specs.Reading.{none, Reads, ReadsBack}
use Rattle.capture.specs.declared.Counts.{Counts}
use Rattle.capture.proofs.Unpacking.{entry_back}
use Rattle.capture.proofs.Agreement.{agreement}
use Rattle.capture.proofs.Finding.{AsEvent, Each, behind_start_each}
use Rattle.capture.proofs.Filling.{payloads_append}
use Rattle.capture.proofs.Rooms.{rooms_suffice}

-- ---- bytes stay bytes
BytesAhead : Ahead → Type 0
BytesAhead (whole n vs rest) = Bytes vs × Bytes rest
BytesAhead (start n) = Unit {0}
BytesAhead (bad_escape n) = Unit {0}
BytesAhead end = Unit {0}

before_bytes : (w v : ℕ) → v < 256 → (a : Ahead) → BytesAhead a → BytesAhead (before w v a)
unfolding before BytesAhead
before_bytes w v l (whole n vs rest) h = (bytes_cons vs l h.0, h.1)
before_bytes w v l (start n) h = tt
before_bytes w v l (bad_escape n) h = tt
before_bytes w v l end h = tt

ahead_bytes : (m : ℕ) (bs : List ℕ) → Bytes bs → BytesAhead (ahead m bs)
unfolding ahead behind_escape BytesAhead
ahead_bytes zero bs h = (bytes_none, h)
ahead_bytes (suc m) [] h = tt
ahead_bytes (suc m) (b ∷ bs) h =
    pick_all BytesAhead (eqb b 0x7E) (λ e. tt)
    (λ e. pick_all BytesAhead (eqb b 0x5C) (λ f. escaped bs (ahead_bytes m) (bytes_tail b bs h)) (λ f. before_bytes 1 b (h 0) (ahead m bs) (ahead_bytes m bs (bytes_tail b bs h))))
  where
    escaped : (bs : List ℕ) → ((bs : List ℕ) → Bytes bs → BytesAhead (ahead m bs)) → Bytes bs → BytesAhead (behind_escape (ahead m) bs)
    escaped [] g h = tt
    escaped (e ∷ bs) g h =
        pick_all BytesAhead (eqb e 0x7E) (λ q. tt)
        (λ q. pick_all BytesAhead (eqb e 0x3E || eqb e 0x1C) (λ p. before_bytes 2 (bit_xor e 0x40) (xor_lt 8 e 0x40 (h 0) (omega arith)) (ahead m bs) (g bs (bytes_tail e bs h))) (λ p. tt))

-- ---- so major, minor and wrapper type are bytes
abbrev FieldsFit : Emitted → Type 0
FieldsFit (refusal n place) = Unit {0}
FieldsFit (frame major minor wrapper len payload) = (major < 256) × (minor < 256) × (wrapper < 256)

abbrev EachFields : List Emitted → Type 0
EachFields [] = Unit {0}
EachFields (e ∷ es) = FieldsFit e × EachFields es

found_fields : (place : ℕ) (give : ℕ → List ℕ → List ℕ → List Emitted) → ((n : ℕ) (vs rest : List ℕ) → Bytes vs → Bytes rest → EachFields (give n vs rest))
    → (a : Ahead) → BytesAhead a → EachFields (events_ahead place give a)
unfolding events_ahead BytesAhead
found_fields place give g (whole n vs rest) h = g (place + n) vs rest h.0 h.1
found_fields place give g (start n) h = (tt, tt)
found_fields place give g (bad_escape n) h = (tt, tt)
found_fields place give g end h = tt

checked_fields : (size place : ℕ) (vs : List ℕ) → Bytes vs → EachFields (checked size place vs)
unfolding checked
checked_fields size place vs h =
    pick_all EachFields (eqb (crc_of (take (size - 2) vs)) (num 2 (size - 2) vs)) (λ e. ((h 0, h 1, h 2), tt)) (λ e. (tt, tt))

sized_fields : (size place : ℕ) (rest : List ℕ) → Bytes rest → EachFields (sized size place rest)
unfolding sized
sized_fields size place rest h =
    pick_all EachFields (within size)
    (λ w. found_fields place (λ place vs rest. checked size place vs) (λ n vs more p q. checked_fields size n vs p) (ahead size rest) (ahead_bytes size rest h))
    (λ w. (tt, tt))

start_fields : (bs : List ℕ) → Bytes bs → EachFields (behind_start bs)
unfolding behind_start
start_fields bs h =
    found_fields 1 (λ place vs rest. sized (num 2 0 vs) place rest) (λ n vs rest p q. sized_fields (num 2 0 vs) n rest q) (ahead 2 bs) (ahead_bytes 2 bs h)

-- ---- what an entry can hold
record Packs (limit : ℕ) (f : Found) : Type 0 where
  event : AsEvent f.event
  fields : FieldsFit f.event
  offset : f.offset < limit

AllPack : ℕ → List Found → Type 0
AllPack limit [] = Unit {0}
AllPack limit (f ∷ fs) = Packs limit f × AllPack limit fs

-- those of one start byte, with others behind them
pack_start : (limit at : ℕ) → at < limit → (fs : List Found) → AllPack limit fs → (es : List Emitted) → Each es → EachFields es → AllPack limit (map (found_at at) es ++ fs)
unfolding AllPack
pack_start limit at l fs h [] p q = h
pack_start limit at l fs h (e ∷ es) p q = (record { event = p.0; fields = q.0; offset = l }, pack_start limit at l fs h es p.1 q.1)

all_pack : (limit at : ℕ) (bs : List ℕ) → Bytes bs → at + length bs ≤ limit → AllPack limit (found_from at bs)
unfolding found_from AllPack
all_pack limit at [] h l = tt
all_pack limit at (b ∷ bs) h l = go (eqb b 0x7E) (all_pack limit (at + 1) bs (bytes_tail b bs h) (omega arith))
  where
    go : (t : Bool) → AllPack limit (found_from (at + 1) bs) → AllPack limit (pick t (map (found_at at) (behind_start bs)) [] ++ found_from (at + 1) bs)
    go true g = pack_start limit at (omega arith) (found_from (at + 1) bs) g (behind_start bs) (behind_start_each bs) (start_fields bs (bytes_tail b bs h))
    go false g = g

-- ---- an entry, read back
record Unpacks (f : Found) : Type 0 where
  event : event_of (entry f) ≡ Some (without_payload f.event)
  offset : offset_of (entry f) ≡ f.offset
  long : payload_length (Some (without_payload f.event)) ≡ length (found_payload f)

unpacks : (offset : ℕ) (e : Emitted) → Packs 65536 (found_at offset e) → Unpacks (found_at offset e)
unpacks offset (refusal n place) h =
    let l = h.event in
    let b = entry_back offset (refusal n place) h.offset (l.0, l.1, omega (arith, l.3)) in
    record { event = b.0; offset = b.1; long = refl }
unpacks offset (frame major minor wrapper len payload) h =
    let l = h.event in
    let f = h.fields in
    let b = entry_back offset (frame major minor wrapper len payload) h.offset (f.0, f.1, f.2, omega (arith, l.0)) in
    record { event = b.0; offset = b.1; long = sym l.1 }

-- ---- the list and the buffer
-- the payloads of some events, by their entries
total_is : (fs : List Found) → AllPack 65536 fs → payload_total (entries_in fs) ≡ length (payloads_in fs)
unfolding payload_total AllPack flatten
total_is [] h = refl
total_is (f ∷ fs) h =
    let u = unpacks f.offset f.event h.0 in
    ap₂ (λ (a b : ℕ). a + b) (ap payload_length u.event ∙ u.long) (total_is fs h.1) ∙ sym (length-append (found_payload f) (payloads_in fs))

-- the first of them
pack_take : (k : ℕ) (fs : List Found) → AllPack 65536 fs → AllPack 65536 (take k fs)
unfolding AllPack
pack_take zero fs h = tt
pack_take (suc k) [] h = tt
pack_take (suc k) (f ∷ fs) h = (h.0, pack_take k fs h.1)

pack_at : (k : ℕ) (fs : List Found) → AllPack 65536 fs → k < length fs → Packs 65536 (get_or fs k none)
unfolding AllPack
pack_at k [] h l = absurd (omega arith)
pack_at zero (f ∷ fs) h l = h.0
pack_at (suc k) (f ∷ fs) h l = pack_at k fs h.1 (omega arith)

take_entries : (k : ℕ) (fs : List Found) → take k (entries_in fs) ≡ entries_in (take k fs)
take_entries zero fs = refl
take_entries (suc k) [] = refl
take_entries (suc k) (f ∷ fs) = ap (λ (z : List ℕ). entry f ∷ z) (take_entries k fs)

length_entries : (fs : List Found) → length (entries_in fs) ≡ length fs
length_entries [] = refl
length_entries (f ∷ fs) = ap suc (length_entries fs)

-- the payloads before one, its own, and those behind it
payloads_at : (k : ℕ) (fs : List Found) → k < length fs → payloads_in fs ≡ payloads_in (take k fs) ++ (found_payload (get_or fs k none) ++ payloads_in (drop (suc k) fs))
unfolding flatten
payloads_at k fs l = ap payloads_in (split_at fs k none l) ∙ payloads_append (take k fs) (get_or fs k none ∷ drop (suc k) fs)

module _ (fs : List Found) (list buffer : List ℕ) (h : AllPack 65536 fs) (few : length fs ≤ 65536) (k : ℕ) (below : k < length fs) where
  abbrev f : Found
  f = get_or fs k none

  abbrev entries : List ℕ
  entries = entries_in fs ++ list

  abbrev stored : List ℕ
  stored = payloads_in fs ++ buffer

  at : get_or entries k 0 ≡ entry f
  at = get_or-append (entries_in fs) list 0 k (omega (arith, length_entries fs)) ∙ get_or-map entry fs k none

  front : take k entries ≡ entries_in (take k fs)
  front = take-append-le k (entries_in fs) list (omega (arith, length_entries fs)) ∙ take_entries k fs

  u : Unpacks f
  u = unpacks f.offset f.event (pack_at k fs h below)

  before_it : List ℕ
  before_it = payloads_in (take k fs)

  lies : payload_part entries k ≡ part (length (payloads_in (take k fs))) (length (found_payload f))
  unfolding payload_part
  lies =
      simp (lt-leb _ _ (let l : k < 65536 = omega arith in l))
      (ap₂ part (ap payload_total front ∙ total_is (take k fs) (pack_take k fs h)) (ap (λ (n : ℕ). payload_length (event_of n)) at ∙ ap payload_length u.event ∙ u.long))

  whole_is : stored ≡ payloads_in (take k fs) ++ (found_payload f ++ (payloads_in (drop (suc k) fs) ++ buffer))
  whole_is = ap (λ (z : List ℕ). z ++ buffer) (payloads_at k fs below) ∙ simp append_assoc

  payload_is : part_of stored (payload_part entries k) ≡ found_payload f
  payload_is =
      let a : List ℕ = payloads_in (take k fs) in
      let b : List ℕ = found_payload f in
      let r : List ℕ = payloads_in (drop (suc k) fs) ++ buffer in
      ap (part_of stored) lies
      ∙ part_in stored (length a) (length b) (omega (arith, ap length whole_is, length-append a (b ++ r), length-append b r))
      ∙ ap (take (length b)) (ap (drop (length a)) whole_is ∙ drop_at a (b ++ r) (length a) refl)
      ∙ take_at b r (length b) refl

  reads_entry : Reads entries stored k f
  reads_entry =
      record {
        event = ap event_of at ∙ u.event;
        offset = ap offset_of at ∙ u.offset;
        payload = payload_is;
      }

-- ---- the law
pub reads_back : ReadsBack
reads_back capture list buffer list' buffer' c h d =
    let fs : List Found = decoded capture in
    let rules : List Rule = capture_rules capture list buffer in
    let o : fs ≡ run_from 0 capture fresh_receiver = agreement.offsets capture in
    let r = judged_ok rules d.answers in
    let short : length capture ≤ 65536 = ltb-false _ _ (first_none 16 (ltb 65536 (length capture)) (no_room 0 (entries_of capture) list ∷ no_room 0 (payloads_of capture) buffer ∷ []) r.0).0 in
    let few : length fs ≤ 65536 = omega (arith, (rooms_suffice capture).0, length_entries fs) in
    let packs : AllPack 65536 fs = all_pack 65536 0 capture h (omega arith) in
    let here : list' ≡ entries_in fs ++ drop (0 + length (entries_of capture)) list = d.lists ∙ judge_pass (λ n. list) rules _ r.0 in
    let there : buffer' ≡ payloads_in fs ++ drop (0 + length (payloads_of capture)) buffer = d.stores ∙ judge_pass (λ n. buffer) rules _ r.0 in
    let n : c.entries ≡ length fs = ap (λ (x : Counts). x.entries) r.1 ∙ length_entries fs in
    record {
      count = n ∙ ap length o;
      each =
          λ k l.
          subst (λ (gs : List Found). Reads list' buffer' k (get_or gs k none)) o
          (rw (here, there) (reads_entry fs (drop (0 + length (entries_of capture)) list) (drop (0 + length (payloads_of capture)) buffer) packs few k (omega arith)));
    }
