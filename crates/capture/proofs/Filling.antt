-- Entries and payloads of the events that are found, one behind the other. Assumes nothing.
use mathlib.Core.Path.{◌≡◌, refl, sym, ap, ◌∙◌, subst}
use mathlib.Core.List.{List, [], ◌∷◌, ◌++◌, append_assoc, append-nil, map, flatten}
use Prim.Native.Nat.{ℕ, ◌+◌, ◌*◌, ◌≤◌, ◌<◌}
use native.Mathlib.Omega.{arith}
use lib.ListN.{length, drop, set, length-append}
use lib.Seq.{sets, length-sets}
use Rattle.std.specs.Prelude.{Option, Some, None, Result}
use Rattle.wire.specs.Writing.{Stores, no_room}
use Rattle.wire.specs.Refusals.{number_of}
use Rattle.wire.proofs.Lists.{sets_then}
use Rattle.wire.proofs.Writing.{stores_sets}
use Rattle.wire.specs.declared.refusals.Refusal.{Refusal}
use Rattle.line.specs.Receive.{frame_payload}
use Rattle.line.specs.Line.{emitted}
use Rattle.line.specs.declared.Event.{Event}
use Rattle.line.specs.declared.Event.TheVariants.{Frame, Refused}
use Rattle.capture.specs.Capture.{Found, found_at, found_from, decoded}
use Rattle.capture.specs.Entry.{packed, entry, payload_length}
use Rattle.capture.specs.Answer.{entries_in, entries_of, found_payload, payloads_in, payloads_of}
use Rattle.capture.specs.Looking.{Fits, Looks, found_in, event_count, Room, PutsEvent, CountsOf}
use Rattle.capture.proofs.Finding.{none_left}
use Rattle.capture.specs.declared.ahead.NextEvent.{NextEvent}

pub entries_append : (fs gs : List Found) → entries_in (fs ++ gs) ≡ entries_in fs ++ entries_in gs
entries_append [] gs = refl
entries_append (f ∷ fs) gs = ap (λ (z : List ℕ). entry f ∷ z) (entries_append fs gs)

pub payloads_append : (fs gs : List Found) → payloads_in (fs ++ gs) ≡ payloads_in fs ++ payloads_in gs
unfolding flatten
payloads_append [] gs = refl
payloads_append (f ∷ fs) gs = ap (λ (z : List ℕ). found_payload f ++ z) (payloads_append fs gs) ∙ sym (append_assoc (found_payload f) (payloads_in fs) (payloads_in gs))

-- ---- what an event adds
events_at : ℕ → Option Event → List ℕ → List Found
events_at offset e store = map (found_at offset) (emitted e store)

entry_count : (offset : ℕ) (e : Option Event) (store : List ℕ) → length (entries_in (events_at offset e store)) ≡ event_count e
unfolding events_at
entry_count offset None store = refl
entry_count offset (Some (Frame major minor wrapper len)) store = refl
entry_count offset (Some (Refused r place)) store = refl

payload_count : (offset : ℕ) (e : Option Event) (store : List ℕ) → Fits e store → length (payloads_in (events_at offset e store)) ≡ payload_length e
unfolding events_at flatten
payload_count offset None store h = refl
payload_count offset (Some (Frame major minor wrapper len)) store h = ap length (append-nil (frame_payload len store)) ∙ h.1
payload_count offset (Some (Refused r place)) store h = refl

-- ---- what is found, and what stands behind it
module _ {s : List ℕ} {from : ℕ} {found : NextEvent} {store : List ℕ} (h : Looks s from found store) where
  abbrev rest : List Found
  rest = found_from found.next (drop found.next s)

  pub entries_are : entries_in (found_from from (drop from s)) ≡ entries_in (found_in found store) ++ entries_in rest
  entries_are = ap entries_in h.events ∙ entries_append (found_in found store) rest

  pub payloads_are : payloads_in (found_from from (drop from s)) ≡ payloads_in (found_in found store) ++ payloads_in rest
  payloads_are = ap payloads_in h.events ∙ payloads_append (found_in found store) rest

  pub entries_seen : length (entries_in (found_in found store)) ≡ event_count found.event
  unfolding events_at
  entries_seen = entry_count found.offset found.event store

  pub payloads_seen : length (payloads_in (found_in found store)) ≡ payload_length found.event
  unfolding events_at
  payloads_seen = payload_count found.offset found.event store h.fits

  -- how many are left
  pub entries_left : length (entries_in (found_from from (drop from s))) ≡ event_count found.event + length (entries_in rest)
  entries_left = ap length entries_are ∙ length-append (entries_in (found_in found store)) (entries_in rest) ∙ ap (λ (k : ℕ). k + length (entries_in rest)) entries_seen

  pub payloads_left : length (payloads_in (found_from from (drop from s))) ≡ payload_length found.event + length (payloads_in rest)
  payloads_left = ap length payloads_are ∙ length-append (payloads_in (found_in found store)) (payloads_in rest) ∙ ap (λ (k : ℕ). k + length (payloads_in rest)) payloads_seen

-- a payload has at most 507 bytes
length_of_lem : (e : Option Event) (store : List ℕ) → Fits e store → payload_length e ≤ 507
length_of_lem None store h = omega arith
length_of_lem (Some (Frame major minor wrapper len)) store h = h.0
length_of_lem (Some (Refused r place)) store h = omega arith

pub length_limit : {s : List ℕ} {from : ℕ} {found : NextEvent} {store : List ℕ} → Looks s from found store → payload_length found.event ≤ 507
length_limit {found = found} {store} h = length_of_lem found.event store h.fits

-- ---- going through a capture
-- up to an offset: how many entries and payload bytes there were, with those that are left
pub record Left (s : List ℕ) (i entries bytes : ℕ) : Type 0 where
  pub within : i ≤ length s
  pub entries_low : entries ≤ i
  pub bytes_low : bytes ≤ 507 * i
  pub entries_all : entries + length (entries_in (found_from i (drop i s))) ≡ length (entries_of s)
  pub bytes_all : bytes + length (payloads_in (found_from i (drop i s))) ≡ length (payloads_of s)

pub left_start : (s : List ℕ) → Left s 0 0 0
left_start s = record { within = omega arith; entries_low = omega arith; bytes_low = omega arith; entries_all = omega arith; bytes_all = omega arith }

pub left_next : {s : List ℕ} {i entries bytes : ℕ} {found : NextEvent} {store : List ℕ} {n m : ℕ} → i < length s → Left s i entries bytes → Looks s i found store
    → (n ≡ event_count found.event) × (n ≤ 1) → m ≡ payload_length found.event → Left s found.next (entries + n) (bytes + m)
left_next u l h n m =
    record {
      within = h.within;
      entries_low = omega (arith, l.entries_low, h.forward u, n.1);
      bytes_low = omega (arith, l.bytes_low, h.forward u, m, length_limit h);
      entries_all = omega (arith, l.entries_all, n.0, entries_left h);
      bytes_all = omega (arith, l.bytes_all, m, payloads_left h);
    }

pub left_end : {s : List ℕ} {i entries bytes : ℕ} → Left s i entries bytes → length s ≤ i → CountsOf s (record { entries = entries; bytes = bytes })
unfolding flatten
left_end {s} {i} l u =
    let e = none_left s i u in
    record { entries = omega (arith, l.entries_all, ap length (ap entries_in e)); bytes = omega (arith, l.bytes_all, ap length (ap payloads_in e)) }

-- what is in the list and in the buffer; what is left, put behind it, makes the whole
pub record Filled (s : List ℕ) (i : ℕ) (list₀ list : List ℕ) (entries : ℕ) (buffer₀ buffer : List ℕ) (bytes : ℕ) : Type 0 where
  pub lists : sets list entries (entries_in (found_from i (drop i s))) ≡ sets list₀ 0 (entries_of s)
  pub stores : sets buffer bytes (payloads_in (found_from i (drop i s))) ≡ sets buffer₀ 0 (payloads_of s)
  pub list_long : length list ≡ length list₀
  pub buffer_long : length buffer ≡ length buffer₀

pub filled_next : {s : List ℕ} {i : ℕ} {list₀ list : List ℕ} {entries : ℕ} {buffer₀ buffer : List ℕ} {bytes : ℕ} {found : NextEvent} {store list' buffer' : List ℕ} {n m : ℕ}
    → Filled s i list₀ list entries buffer₀ buffer bytes → Looks s i found store → PutsEvent (found_in found store) list entries buffer bytes list' buffer'
    → n ≡ event_count found.event → m ≡ payload_length found.event → Filled s found.next list₀ list' (entries + n) buffer₀ buffer' (bytes + m)
filled_next {s} {i} {list₀} {list} {entries} {buffer₀} {buffer} {bytes} {found} {store} {list'} {buffer'} {n} {m} f h p en em =
    let rest : List Found = found_from found.next (drop found.next s) in
    record {
      lists =
          ap (λ (z : List ℕ). sets z (entries + n) (entries_in rest)) p.lists
          ∙ sets_then (entries_in (found_in found store)) (entries_in rest) list entries (entries + n) (omega (arith, entries_seen h, en))
          ∙ ap (sets list entries) (sym (entries_are h))
          ∙ f.lists;
      stores =
          ap (λ (z : List ℕ). sets z (bytes + m) (payloads_in rest)) p.stores
          ∙ sets_then (payloads_in (found_in found store)) (payloads_in rest) buffer bytes (bytes + m) (omega (arith, payloads_seen h, em))
          ∙ ap (sets buffer bytes) (sym (payloads_are h))
          ∙ f.stores;
      list_long = ap length p.lists ∙ length-sets list entries (entries_in (found_in found store)) ∙ f.list_long;
      buffer_long = ap length p.stores ∙ length-sets buffer bytes (payloads_in (found_in found store)) ∙ f.buffer_long;
    }

pub filled_end : {s : List ℕ} {i : ℕ} {list₀ list : List ℕ} {entries : ℕ} {buffer₀ buffer : List ℕ} {bytes : ℕ} → Filled s i list₀ list entries buffer₀ buffer bytes
    → length s ≤ i → PutsEvent (decoded s) list₀ 0 buffer₀ 0 list buffer
unfolding flatten
filled_end {s} {i} {list = list} {entries} {buffer = buffer} {bytes} f u =
    let e = none_left s i u in
    record {
      lists = ap (λ (fs : List Found). sets list entries (entries_in fs)) (sym e) ∙ f.lists;
      stores = ap (λ (fs : List Found). sets buffer bytes (payloads_in fs)) (sym e) ∙ f.stores;
    }

-- there is room for the next event
pub room_there : {s : List ℕ} {i : ℕ} {list₀ list : List ℕ} {entries : ℕ} {buffer₀ buffer : List ℕ} {bytes : ℕ} {found : NextEvent} {store : List ℕ}
    → Left s i entries bytes → Filled s i list₀ list entries buffer₀ buffer bytes → Looks s i found store
    → length (entries_of s) ≤ length list₀ → length (payloads_of s) ≤ length buffer₀ → Room found.event store list entries buffer bytes
room_there l f h u v =
    record {
      fits = h.fits;
      lists = omega (arith, l.entries_all, entries_left h, f.list_long);
      stores = omega (arith, l.bytes_all, payloads_left h, f.buffer_long);
    }

-- ---- where the event is known: the room for it, and what is put
pub room_as : {e e' : Option Event} {store list : List ℕ} {entries : ℕ} {buffer : List ℕ} {bytes : ℕ} → e ≡ e' → Room e store list entries buffer bytes
    → Room e' store list entries buffer bytes
room_as {store = store} {list} {entries} {buffer} {bytes} q h = subst (λ (x : Option Event). Room x store list entries buffer bytes) q h

module _ (found : NextEvent) (store : List ℕ) {list : List ℕ} {entries : ℕ} {buffer : List ℕ} {bytes : ℕ} where
  puts_as : (e : Option Event) {list' buffer' : List ℕ} → found.event ≡ e
      → PutsEvent (map (found_at found.offset) (emitted e store)) list entries buffer bytes list' buffer'
      → PutsEvent (found_in found store) list entries buffer bytes list' buffer'
  puts_as e {list'} {buffer'} q h =
      subst (λ (x : Option Event). PutsEvent (map (found_at found.offset) (emitted x store)) list entries buffer bytes list' buffer') (sym q) h

  pub puts_nothing : found.event ≡ None → PutsEvent (found_in found store) list entries buffer bytes list buffer
  unfolding flatten
  puts_nothing q = puts_as None q (record { lists = refl; stores = refl })

  pub puts_refusal : {r : Refusal} {place x : ℕ} → found.event ≡ Some (Refused r place) → x ≡ packed (number_of r ∷ place ∷ 0 ∷ 0 ∷ 0 ∷ found.offset ∷ [])
      → PutsEvent (found_in found store) list entries buffer bytes (set list entries x) buffer
  unfolding flatten
  puts_refusal q e = puts_as (Some (Refused _ _)) q (record { lists = ap (set list entries) e; stores = refl })

  pub puts_frame : {major minor wrapper len x : ℕ} {payload buffer' : List ℕ} {answer : Result ℕ Refusal} → found.event ≡ Some (Frame major minor wrapper len)
      → x ≡ packed (5 ∷ len ∷ major ∷ minor ∷ wrapper ∷ found.offset ∷ []) → payload ≡ frame_payload len store → bytes + length payload ≤ length buffer
      → Stores (no_room bytes payload buffer ∷ []) bytes payload buffer answer buffer'
      → PutsEvent (found_in found store) list entries buffer bytes (set list entries x) buffer'
  unfolding flatten
  puts_frame {len = len} {payload = payload} q e p r w =
      puts_as (Some (Frame _ _ _ _)) q
      (record {
        lists = ap (set list entries) e;
        stores = stores_sets bytes payload buffer r w ∙ ap (sets buffer bytes) (p ∙ sym (append-nil (frame_payload len store)));
      })
