-- How the code looks ahead: what its own functions promise. None of it is needed to read the promises of the public ones.
use Rattle.std.specs.Prelude.{ℕ, ◌+◌, ◌-◌, ◌≤◌, ◌<◌, ◌≡◌, List, [], ◌++◌, map, length, take, drop, get_or, Option, Some, None}
use Rattle.std.proofs.lemmas.List.Edits.{sets}
use Rattle.wire.specs.Refusals.{number_of}
use Rattle.wire.specs.declared.refusals.Refusal.{Refusal}
use Rattle.line.specs.Receive.{frame_payload}
use Rattle.line.specs.Line.{Emitted, emitted, Limits}
use Rattle.line.specs.declared.Event.{Event}
use Rattle.line.specs.declared.Event.TheVariants.{Frame, Refused}
use Rattle.capture.specs.Ahead.{Ahead, whole, start, bad_escape, end, ahead}
use Rattle.capture.specs.Capture.{events_ahead, Found, found_at, found_from}
use Rattle.capture.specs.Entry.{payload_length}
use Rattle.capture.specs.Answer.{entries_in, entries_of, payloads_in, payloads_of}
use Rattle.capture.specs.declared.Counts.{Counts}
use Rattle.capture.specs.declared.ahead.NextEvent.{NextEvent}

-- ---- start bytes
-- no 7E between two offsets of a capture
abbrev pub NoStartIn : List ℕ → ℕ → ℕ → Type 0
NoStartIn s from to = (i : ℕ) → from ≤ i → i < to → get_or s i 0 ≡ 0x7E → ⊥

-- neither of two bytes
abbrev pub NoneIn : List ℕ → ℕ → ℕ → ℕ → ℕ → Type 0
NoneIn s from to a b = (i : ℕ) → from ≤ i → i < to → (get_or s i 0 ≡ a → ⊥) × (get_or s i 0 ≡ b → ⊥)

-- the first 7E from an offset on, or the end
pub record StartFrom (s : List ℕ) (from to : ℕ) : Type 0 where
  pub forward : from ≤ to
  pub within : to ≤ length s
  pub clear : NoStartIn s from to
  pub there : to < length s → get_or s to 0 ≡ 0x7E

-- ---- unescaped bytes
-- no unescaped byte is found
abbrev pub Stuck : Ahead → Type 0
Stuck (whole n vs rest) = ⊥
Stuck (start n) = Unit {0}
Stuck (bad_escape n) = Unit {0}
Stuck end = Unit {0}

-- the unescaped bytes between two offsets are the first `got` of the store
pub record Holds (s : List ℕ) (from got at : ℕ) (store : List ℕ) : Type 0 where
  pub bytes : ahead got (drop from s) ≡ whole (at - from) (take got store) (drop at s)
  pub forward : from ≤ at
  pub within : at ≤ length s

-- some more of them, `most` in all: fewer only where no other is found
pub record Takes (s : List ℕ) (got at most : ℕ) (store : List ℕ) (got' at' : ℕ) (store' : List ℕ) : Type 0 where
  pub more : got ≤ got'
  pub limit : got' ≤ most
  pub holds : (from : ℕ) → Holds s from got at store → Holds s from got' at' store'
  pub stuck : got' < most → Stuck (ahead 1 (drop at' s))

-- the same, where fewer than `most` may be taken at once: none only where none is found
pub record Continues (s : List ℕ) (got at most : ℕ) (store : List ℕ) (got' at' : ℕ) (store' : List ℕ) : Type 0 where
  pub more : got ≤ got'
  pub limit : got' ≤ most
  pub holds : (from : ℕ) → Holds s from got at store → Holds s from got' at' store'
  pub stuck : got' ≡ got → Stuck (ahead 1 (drop at' s))

-- ---- events
abbrev pub no_event : ℕ → ℕ → NextEvent
no_event offset next = record { event = None; offset = offset; next = next }

-- a refusal at the byte before an offset of the capture
abbrev pub refusal_at : Refusal → ℕ → ℕ → ℕ → NextEvent
refusal_at r offset behind next = record { event = Some (Refused r (behind - offset)); offset = offset; next = next }

-- what is found where no unescaped byte is
abbrev pub stopped : ℕ → Ahead → List Emitted
stopped place a = events_ahead place (λ n vs rest. []) a

-- a payload of at most 507 bytes, which is in the store; a refusal 1 to 4 at a place of 1 to 1029
abbrev pub Fits : Option Event → List ℕ → Type 0
Fits None store = Unit {0}
Fits (Some (Frame major minor wrapper len)) store = (len ≤ 507) × (length (frame_payload len store) ≡ len)
Fits (Some (Refused r place)) store = Limits (number_of r) place

-- the events of the frame whose start byte has an offset, from another offset of the capture on: one at most; and where to go on
pub record NextIs (s : List ℕ) (offset at : ℕ) (events : List Emitted) (found : NextEvent) (store : List ℕ) : Type 0 where
  pub event : emitted found.event store ≡ events
  pub offset_is : found.offset ≡ offset
  pub forward : at ≤ found.next
  pub within : found.next ≤ length s
  pub clear : NoStartIn s at found.next

abbrev pub found_in : NextEvent → List ℕ → List Found
found_in found store = map (found_at found.offset) (emitted found.event store)

-- the next event from an offset of the capture on, and where to go on: further on, unless the capture ends before that offset
pub record Looks (s : List ℕ) (from : ℕ) (found : NextEvent) (store : List ℕ) : Type 0 where
  pub events :
      found_from from (drop from s)
      ≡ found_in found store ++ found_from found.next (drop found.next s)
  pub forward : from < length s → from < found.next
  pub within : found.next ≤ length s
  pub below : from < length s → found.offset < length s
  pub fits : Fits found.event store

-- ---- the lent list and buffer
abbrev pub event_count : Option Event → ℕ
event_count None = 0
event_count (Some e) = 1

-- there is room for an event's entry and payload at a place of each
pub record Room (e : Option Event) (store list : List ℕ) (entries : ℕ) (buffer : List ℕ) (bytes : ℕ) : Type 0 where
  pub fits : Fits e store
  pub lists : entries + event_count e ≤ length list
  pub stores : bytes + payload_length e ≤ length buffer

-- both are put there
pub record PutsEvent (fs : List Found) (list : List ℕ) (entries : ℕ) (buffer : List ℕ) (bytes : ℕ) (list' buffer' : List ℕ) : Type 0 where
  pub lists : list' ≡ sets list entries (entries_in fs)
  pub stores : buffer' ≡ sets buffer bytes (payloads_in fs)

-- how many entries and payload bytes a capture has
pub record CountsOf (capture : List ℕ) (c : Counts) : Type 0 where
  pub entries : c.entries ≡ length (entries_of capture)
  pub bytes : c.bytes ≡ length (payloads_of capture)
