-- A number's bytes are read back as the number, and bytes read as a number are its bytes, at every width. Assumes nothing.
use mathlib.Core.Path.{◌≡◌, ◌∙◌, refl, sym, ap, ap₂}
use mathlib.Core.List.{List, [], ◌∷◌, ◌++◌}
use Prim.Native.Nat.{ℕ, zero, suc, ◌+◌, ◌*◌, ◌^◌, ◌/◌, ◌%◌, ◌≤◌, ◌<◌}
use native.Mathlib.Nat.{add-zero, zero-add, suc-add, mul-add, mul_assoc, mul_left_comm, pow-suc}
use native.Mathlib.Numerals.{add-one}
use native.Mathlib.Omega.{arith}
use lib.ListN.{length, get_or, take, drop, length-append}
use lib.Seq.{get_or_at, append_snoc, drop-cons}
use Rattle.wire.specs.Numbers.{Bytes, num, le}

pub length_le : (w v : ℕ) → length (le w v) ≡ w
length_le zero v = refl
length_le (suc zero) v = refl
length_le (suc (suc w)) v = ap suc (length_le (suc w) (v / 256))

-- wherever they stand
pub num_le : (w v : ℕ) (a r : List ℕ) (at : ℕ) → length a ≡ at → v < 256 ^ w → num w at (a ++ (le w v ++ r)) ≡ v
num_le zero v a r at e h = omega arith
num_le (suc zero) v a r at e h = get_or_at a v r 0 at e
num_le (suc (suc w)) v a r at e h =
    let x = v % 256 in
    let t = le (suc w) (v / 256) ++ r in
    let ih : num (suc w) (at + 1) (a ++ (x ∷ []) ++ t) ≡ v / 256 =
    num_le (suc w) (v / 256) (a ++ (x ∷ [])) r (at + 1) (omega (arith, length-append a (x ∷ []))) (omega (arith, pow-suc 256 (suc w))) in
    rw (get_or_at a x t 0 at e, rw append_snoc at ih) (omega arith)

-- ---- bytes
pub bytes_none : Bytes []
bytes_none i = omega arith

pub bytes_cons : {b : ℕ} (bs : List ℕ) → b < 256 → Bytes bs → Bytes (b ∷ bs)
bytes_cons bs l h zero = l
bytes_cons bs l h (suc i) = h i

pub bytes_tail : (b : ℕ) (bs : List ℕ) → Bytes (b ∷ bs) → Bytes bs
bytes_tail b bs h i = h (suc i)

-- read as a number they are that number's
pub le_num : (s : List ℕ) → Bytes s → (w at : ℕ) → at + w ≤ length s → le w (num w at s) ≡ take w (drop at s)
le_num s h zero at k = refl
le_num s h (suc zero) at k = sym (ap (take 1) (drop-cons s at 0 (omega arith)))
le_num s h (suc (suc w)) at k =
    let b : ℕ = get_or s at 0 in
    let m : ℕ = num (suc w) (at + 1) s in
    ap₂ ◌∷◌ (low b m (h at)) (ap (le (suc w)) (high b m (h at)) ∙ le_num s h (suc w) (at + 1) (omega arith) ∙ rw (add-one at))
    ∙ sym (ap (take (suc (suc w))) (drop-cons s at 0 (omega arith)))
  where
    low : (b m : ℕ) → b < 256 → (b + 256 * m) % 256 ≡ b
    low b m h = omega arith

    high : (b m : ℕ) → b < 256 → (b + 256 * m) / 256 ≡ m
    high b m h = omega arith

-- the low byte, and the rest
num_suc : (w at : ℕ) (s : List ℕ) → num (suc w) at s ≡ get_or s at 0 + 256 * num w (at + 1) s
num_suc zero at s = omega arith
num_suc (suc w) at s = refl

-- a number is its low v bytes and the w behind them
pub num_split : (v w at : ℕ) (s : List ℕ) → num (v + w) at s ≡ num v at s + 256 ^ v * num w (at + v) s
num_split zero w at s = rw (zero-add w, add-zero at) (omega arith)
num_split (suc v) w at s =
    let e : at + suc v ≡ at + 1 + v = omega arith in
    rw (
      suc-add v w,
      num_suc (v + w) at s,
      num_suc v at s,
      num_split v w (at + 1) s,
      e,
      pow-suc 256 v,
      mul_assoc (256 ^ v) 256 (num w (at + 1 + v) s),
      mul_left_comm (256 ^ v) 256 (num w (at + 1 + v) s),
      mul-add 256 (num v (at + 1) s) (256 ^ v * num w (at + 1 + v) s),
    ) (omega arith)
