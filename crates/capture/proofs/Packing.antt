-- Entries, and the payloads that they tell of. Assumes nothing.
use mathlib.Core.Path.{◌≡◌, refl, sym, ap, ◌∙◌, subst}
use mathlib.Core.List.{List, [], ◌∷◌, ◌++◌}
use mathlib.Core.Bool.{Bool, true, false, ◌&&◌}
use Prim.Native.Nat.{ℕ, ◌+◌, ◌≤◌, ◌<◌}
use native.Mathlib.Omega.{arith}
use native.Mathlib.Numerals.{add-one}
use lib.ListN.{length, take, get_or, get_or-eq_default}
use lib.Seq.{take-suc, take_all}
use lib.Dec.{eqb, leb}
use borrow.Author.Tests.{eq-eqb, ne_eqb, le-leb, lt-leb, leb-true}
use Rattle.std.specs.Prelude.{Option, Some, None}
use Rattle.wire.specs.Numbers.{num, le}
use Rattle.wire.specs.Refusals.{refusal_of}
use Rattle.wire.specs.declared.refusals.Refusal.{Refusal}
use Rattle.wire.specs.Fields.{values_at}
use Rattle.wire.specs.Parts.{part}
use Rattle.wire.specs.Choice.{pick}
use Rattle.wire.proofs.Choice.{pick_all, and_holds}
use Rattle.line.specs.declared.Event.{Event}
use Rattle.line.specs.declared.Event.TheVariants.{Frame, Refused}
use Rattle.capture.specs.Entry.{entry_fields, values_of, refusal_of_kind, event_by, event_of, payload_length, length_of, payload_total, payload_part}

-- ---- a kind that is no refusal's number
pub other_kind : (n : ℕ) → (n ≡ 1 → ⊥) → (n ≡ 2 → ⊥) → (n ≡ 3 → ⊥) → (n ≡ 4 → ⊥) → None ≡ refusal_of_kind n
other_kind n one two three four = go (leb 1 n && leb n 4) refl
  where
    go : (t : Bool) → (leb 1 n && leb n 4) ≡ t → ◌≡◌ {A = Option Refusal} None (pick t (Some (refusal_of n)) None)
    go false e = refl
    go true e = let l = and_holds (leb 1 n) (leb n 4) e in absurd (omega (arith, leb-true _ _ l.0, leb-true _ _ l.1))

-- ---- an entry's event, from its bytes
none_by : (t : Bool) (r : Refusal) (place : ℕ) → ◌≡◌ {A = Option Refusal} None (pick t (Some r) None) → ◌≡◌ {A = Option Event} None (pick t (Some (Refused r place)) None)
none_by true r place q = cc
none_by false r place q = refl

some_by : (t : Bool) (r s : Refusal) (place : ℕ) → ◌≡◌ {A = Option Refusal} (Some s) (pick t (Some r) None)
    → ◌≡◌ {A = Option Event} (Some (Refused s place)) (pick t (Some (Refused r place)) None)
some_by true r s place q = cc
some_by false r s place q = cc

module _ (bytes : List ℕ) (n count : ℕ) (e : bytes ≡ le 8 n) (c : count ≡ num 2 1 bytes) where
  abbrev event : List ℕ → Option Event
  event b = event_by (get_or (values_at entry_fields 0 b) 0 0) (values_at entry_fields 0 b)

  pub frame_event : get_or bytes 0 0 ≡ 5 → Some (Frame (get_or bytes 3 0) (get_or bytes 4 0) (get_or bytes 5 0) count) ≡ event_of n
  unfolding event_by
  frame_event k = subst (λ (b : List ℕ). Some (Frame (get_or bytes 3 0) (get_or bytes 4 0) (get_or bytes 5 0) count) ≡ event b) e (sym (simp (eq-eqb _ _ k, c)))

  module _ (k : get_or bytes 0 0 ≡ 5 → ⊥) where
    pub no_event : None ≡ refusal_of_kind (get_or bytes 0 0) → None ≡ event_of n
    unfolding event_by
    no_event q = subst (λ (b : List ℕ). None ≡ event b) e (simp (ne_eqb _ _ k) (none_by _ _ _ q))

    pub refusal_event : {r : Refusal} → Some r ≡ refusal_of_kind (get_or bytes 0 0) → Some (Refused r count) ≡ event_of n
    unfolding event_by
    refusal_event {r} q = subst (λ (b : List ℕ). Some (Refused r count) ≡ event b) e (simp (ne_eqb _ _ k, sym c) (some_by _ _ _ _ q))

-- an entry's payload length is a number of 16 bits
pub length_below : (n : ℕ) → length_of n < 65536
unfolding event_by
length_below n =
    let kind : ℕ = get_or (values_of n) 0 0 in
    pick_all (λ (e : Option Event). payload_length e < 65536) (eqb kind 5) (λ q. omega arith)
    (λ q. pick_all (λ (e : Option Event). payload_length e < 65536) (leb 1 kind && leb kind 4) (λ p. omega arith) (λ p. omega arith))

pub total_append : (ns ms : List ℕ) → payload_total (ns ++ ms) ≡ payload_total ns + payload_total ms
unfolding payload_total
total_append [] ms = (let e : payload_total ms ≡ 0 + payload_total ms = omega arith in e)
total_append (n ∷ ns) ms =
    let e : length_of n + (payload_total ns + payload_total ms) ≡ length_of n + payload_total ns + payload_total ms = omega arith in
    ap (λ (k : ℕ). length_of n + k) (total_append ns ms) ∙ e

-- one entry more
pub total_next : (list : List ℕ) (i : ℕ) → i < length list → payload_total (take i list) + length_of (get_or list i 0) ≡ payload_total (take (i + 1) list)
unfolding payload_total
total_next list i h =
    let x : ℕ = length_of (get_or list i 0) in
    let t : take (i + 1) list ≡ take i list ++ (get_or list i 0 ∷ []) = rw (add-one i) (take-suc list i 0 h) in
    sym (ap payload_total t ∙ total_append (take i list) (get_or list i 0 ∷ []) ∙ (let e : payload_total (take i list) + (x + 0) ≡ payload_total (take i list) + x = omega arith in e))

-- ---- the part of an entry's payload
module _ (list : List ℕ) (k : ℕ) where
  pub part_above : 65536 ≤ k → part 0 0 ≡ payload_part list k
  unfolding payload_part
  part_above h = sym (simp (le-leb _ _ h))

  -- an entry that is not there
  pub part_missing : k < 65536 → length list ≤ k → (total : ℕ) → total ≡ payload_total (take (length list) list) → part total 0 ≡ payload_part list k
  unfolding payload_part event_by
  part_missing u h total e =
      let t : take (length list) list ≡ take k list = take_all (length list) list (omega arith) ∙ sym (take_all k list h) in
      sym (simp (lt-leb _ _ u, get_or-eq_default list 0 h) (ap (λ (n : ℕ). part n 0) (ap payload_total (sym t) ∙ sym e)))

  pub part_there : k < 65536 → (total len : ℕ) → total ≡ payload_total (take k list) → len ≡ length_of (get_or list k 0) → part total len ≡ payload_part list k
  unfolding payload_part
  part_there u total len e f = sym (simp (lt-leb _ _ u, e, f))
