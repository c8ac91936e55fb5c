-- A frame whose bytes stand at the front of a store. Assumes nothing.
use mathlib.Core.Path.{◌≡◌, sym, ap, ◌∙◌}
use mathlib.Core.List.{List, [], ◌∷◌, ◌++◌}
use Prim.Native.Nat.{ℕ, ◌+◌, ◌-◌, ◌≤◌, ◌<◌}
use native.Mathlib.Omega.{arith}
use lib.ListN.{length, take, drop, get_or, length-append, length-drop, take-append-drop, get_or-append}
use lib.Seq.{take-append-le, drop-append-le, length-take-le}
use borrow.Author.Tests.{eq-eqb, ne_eqb, le-leb}
use Rattle.wire.specs.Numbers.{num}
use Rattle.wire.proofs.Lists.{part_in}
use Rattle.crc.specs.Crc.{crc_of}
use Rattle.line.specs.Receive.{frame_payload}
use Rattle.line.specs.Line.{refusal, frame, frame_gives}
use Rattle.capture.specs.Capture.{checked}

-- the receiver checks what stands at the front of its store
frame_there : (size place : ℕ) (p t : List ℕ) → 5 ≤ size → size ≤ 512 → length p ≡ size → frame_gives size place (p ++ t) ≡ checked size place p
unfolding frame_gives checked
frame_there size place p t h5 h512 l =
    let l3 : length (drop 3 p) ≡ size - 3 = length-drop 3 p ∙ ap (λ (n : ℕ). n - 3) l in
    let a : take (size - 2) (p ++ t) ≡ take (size - 2) p = take-append-le (size - 2) p t (omega arith) in
    let g : (i : ℕ) → i < size → get_or (p ++ t) i 0 ≡ get_or p i 0 = λ i h. get_or-append p t 0 i (omega arith) in
    let e : take (size - 5) (drop 3 (p ++ t)) ≡ take (size - 5) (drop 3 p) =
    ap (take (size - 5)) (drop-append-le 3 p t (omega arith)) ∙ take-append-le (size - 5) (drop 3 p) t (omega arith) in
    let f : frame_payload (size - 5) (p ++ t) ≡ take (size - 5) (drop 3 p) =
    simp (le-leb (size - 5) 507 (omega arith)) (part_in (p ++ t) 3 (size - 5) (omega (arith, length-append p t)) ∙ e) in
    simp (a, g (size - 2) (omega arith), g (size - 2 + 1) (omega arith), g 0 (omega arith), g 1 (omega arith), g 2 (omega arith), f)

pub frame_front : (size place : ℕ) (s : List ℕ) → 5 ≤ size → size ≤ 512 → size ≤ length s → frame_gives size place s ≡ checked size place (take size s)
frame_front size place s h5 h512 l =
    ap (frame_gives size place) (sym (take-append-drop size s)) ∙ frame_there size place (take size s) (drop size s) h5 h512 (length-take-le size s l)

-- as the code checks it: the CRC that was worked out, and the one that was sent
module _ (size place : ℕ) (s : List ℕ) (h5 : 5 ≤ size) (h512 : size ≤ 512) (l : size ≤ length s) (sum sent : ℕ)
    (worked : sum ≡ crc_of (take (size - 2) s)) (came : sent ≡ num 2 (size - 2) s) where
  pub crc_differs : (sum ≡ sent → ⊥) → refusal 4 place ∷ [] ≡ checked size place (take size s)
  unfolding frame_gives
  crc_differs n =
      sym (sym (frame_front size place s h5 h512 l) ∙ simp (ne_eqb _ _ (let k : crc_of (take (size - 2) s) ≡ num 2 (size - 2) s → ⊥ = λ q. n (worked ∙ q ∙ sym came) in k)))

  pub crc_same : sum ≡ sent
      → frame (get_or s 0 0) (get_or s 1 0) (get_or s 2 0) (size - 5) (frame_payload (size - 5) s) ∷ [] ≡ checked size place (take size s)
  unfolding frame_gives
  crc_same q = sym (sym (frame_front size place s h5 h512 l) ∙ simp (eq-eqb _ _ (let k : crc_of (take (size - 2) s) ≡ num 2 (size - 2) s = sym worked ∙ q ∙ came in k)))
