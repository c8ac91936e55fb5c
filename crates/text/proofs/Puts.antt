-- Texts put one behind the other into a lent room. Assumes nothing.
use mathlib.Core.Path.{◌≡◌, refl, sym, ap, ◌∙◌}
use mathlib.Core.Bool.{Bool, true, false}
use mathlib.Core.List.{List, [], ◌∷◌, ◌++◌}
use Prim.Native.Nat.{ℕ, suc, ◌+◌, ◌-◌, ◌≤◌, ◌<◌}
use native.Mathlib.Nat.{add-zero}
use native.Mathlib.Numerals.{add-one}
use native.Mathlib.Omega.{arith}
use lib.ListN.{length, take, drop, set, get_or, length-append, length-take, take-append-drop}
use lib.Seq.{sets, set_out, drop-cons, length-sets, length-take-le, take_all, take-nil}
use lib.Dec.{ltb}
use borrow.Author.Tests.{ltb-true, ltb-false}
use Rattle.wire.specs.Writing.{placed}
use Rattle.wire.proofs.Lists.{sets_then}
use Rattle.wire.proofs.Writing.{sets_placed}
use Rattle.text.specs.Puts.{Puts, fitting}

below_or : {X : Type 0} (a b : ℕ) (t : Bool) → ltb a b ≡ t → (a < b → X) → (b ≤ a → X) → X
below_or a b true e f g = f (ltb-true a b e)
below_or a b false e f g = g (ltb-false a b e)

-- ---- what fits of a text is a run of stores, of which those past the end do nothing
sets_out : (s l : List ℕ) (i : ℕ) → length l ≤ i → sets l i s ≡ l
sets_out [] l i h = refl
sets_out (a ∷ s) l i h = rw (set_out l i a h) (sets_out s l (suc i) (omega arith))

module _ (s room : List ℕ) (at : ℕ) where
  room_past : length room ≤ at → sets room at s ≡ placed at (fitting at s room) room
  room_past h =
      let e : length room - at ≡ 0 = omega arith in
      sets_out s room at h ∙ rw (e, add-zero at) (sym (take-append-drop at room))

  room_wide : at < length room → length s ≤ length room - at → sets room at s ≡ placed at (fitting at s room) room
  room_wide h k = rw (take_all (length room - at) s k) (sets_placed at s room (omega arith))

  room_short : at < length room → length room - at < length s → sets room at s ≡ placed at (fitting at s room) room
  room_short h k =
      let n : ℕ = length room - at in
      let l : length (take n s) ≡ n = length-take-le n s (omega arith) in
      ap (sets room at) (sym (take-append-drop n s))
      ∙ sym (sets_then (take n s) (drop n s) room at (length room) (omega arith))
      ∙ sets_out (drop n s) (sets room at (take n s)) (length room) (omega (arith, length-sets room at (take n s)))
      ∙ sets_placed at (take n s) room (omega arith)

  fits_sets : sets room at s ≡ placed at (fitting at s room) room
  fits_sets =
      below_or at (length room) (ltb at (length room)) refl
      (λ h. below_or (length room - at) (length s) (ltb (length room - at) (length s)) refl (λ k. room_short h k) (λ k. room_wide h k))
      room_past

-- a place with a run of stores
pub puts_stores : {s room after : List ℕ} {at behind : ℕ} → behind ≡ at + length (fitting at s room) → after ≡ sets room at s → Puts s at room behind after
puts_stores {s} {room} {after} {at} e l = record { place = e; leaves = l ∙ fits_sets s room at }

module _ {s room after : List ℕ} {at behind : ℕ} (p : Puts s at room behind after) where
  pub stores : after ≡ sets room at s
  stores = p.leaves ∙ sym (fits_sets s room at)

  pub puts_length : length after ≡ length room
  puts_length = ap length stores ∙ length-sets room at s

  -- the text by another name
  pub puts_same : {t : List ℕ} → s ≡ t → Puts t at room behind after
  puts_same {t} e = rw e at p

-- ---- nothing, and one text behind the other
pub puts_none : (at : ℕ) (room : List ℕ) → Puts [] at room at room
puts_none at room = puts_stores (rw (take-nil {A = ℕ} (length room - at)) (omega arith)) refl

then_place : (a b : List ℕ) (at l p q : ℕ) → p ≡ at + length (take (l - at) a) → q ≡ p + length (take (l - p) b) → q ≡ at + length (take (l - at) (a ++ b))
then_place a b at l p q e f =
    omega (arith, length-take (l - at) a, length-take (l - p) b, length-take (l - at) (a ++ b), length-append a b)

then_stores : (a b room : List ℕ) (at p : ℕ) → p ≡ at + length (fitting at a room) → sets (sets room at a) p b ≡ sets room at (a ++ b)
then_stores a b room at p e =
    let n : ℕ = length room - at in
    let l : length (sets room at a) ≡ length room = length-sets room at a in
    below_or n (length a) (ltb n (length a)) refl
    (λ h.
    let k : length (take n a) ≡ n = length-take-le n a (omega arith) in
    sets_out b (sets room at a) p (omega arith)
    ∙ sym (sets_out b (sets room at a) (at + length a) (omega arith))
    ∙ sets_then a b room at (at + length a) refl)
    (λ h. sets_then a b room at p (e ∙ ap (λ (x : List ℕ). at + length x) (take_all n a h)))

pub puts_then : {a b room mid after : List ℕ} {at p q : ℕ} → Puts a at room p mid → Puts b p mid q after → Puts (a ++ b) at room q after
puts_then {a} {b} {room} {mid} {after} {at} {p} {q} x y =
    puts_stores
    (then_place a b at (length room) p q x.place (rw (puts_length x) at y.place))
    (stores y ∙ ap (λ (l : List ℕ). sets l p b) (stores x) ∙ then_stores a b room at p x.place)

-- ---- a loop that puts a text piece by piece: once the rest is put where the last piece ends, the whole is put
abbrev pub Leaves : List ℕ → ℕ → List ℕ → List ℕ → ℕ → List ℕ → Type 0
Leaves whole at room rest behind now = (q : ℕ) (after : List ℕ) → Puts rest behind now q after → Puts whole at room q after

pub leaves_all : (s : List ℕ) (at : ℕ) (room : List ℕ) → Leaves s at room s at room
leaves_all s at room q after p = p

module _ {whole room : List ℕ} {at behind : ℕ} {rest now : List ℕ} (l : Leaves whole at room rest behind now) where
  -- a piece of the rest is put
  pub leaves_less : {a b mid : List ℕ} {p : ℕ} → rest ≡ a ++ b → Puts a behind now p mid → Leaves whole at room b p mid
  leaves_less e x q after y = l q after (puts_same (puts_then x y) (sym e))

  pub leaves_length : length now ≡ length room
  leaves_length =
      let p : Puts rest behind now (behind + length (fitting behind rest now)) (placed behind (fitting behind rest now) now) =
      record { place = refl; leaves = refl } in
      sym (puts_length p) ∙ puts_length (l _ _ p)

  -- nothing is left
  pub leaves_none : rest ≡ [] → Puts whole at room behind now
  leaves_none e = l behind now (puts_same (puts_none behind now) (sym e))

-- the rest at a place of a text
pub bytes_at : (s : List ℕ) (i : ℕ) → i < length s → drop i s ≡ (get_or s i 0 ∷ []) ++ drop (i + 1) s
bytes_at s i h = rw (add-one i, drop-cons s i 0 h)

-- one byte, with room for it and without
pub byte_fits : (b at : ℕ) (room : List ℕ) → at < length room → Puts (b ∷ []) at room (at + 1) (set room at b)
byte_fits b at room h =
    let e : length room - at ≡ suc (length room - suc at) = omega arith in
    puts_stores (rw (e, take-nil {A = ℕ} (length room - suc at)) (omega arith)) refl

pub byte_past : (b at : ℕ) (room : List ℕ) → length room ≤ at → Puts (b ∷ []) at room at room
byte_past b at room h =
    let e : length room - at ≡ 0 = omega arith in
    puts_stores (rw e (omega arith)) (sym (set_out room at b h))
