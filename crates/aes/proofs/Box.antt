-- The printed boxes are the defined ones at all 256 bytes, the definition's inverse and the affine step's are inverses, each box undoes the other, and the
-- code's ways to an inverse, a square and the affine steps lead to the definitions: tests that are computed byte by byte. Assumes nothing.
use mathlib.Core.Path.{◌≡◌, ◌∙◌, sym, ap}
use mathlib.Core.Bool.{Bool, ◌&&◌}
use mathlib.Core.List.{List}
use Prim.Native.Nat.{ℕ, zero, suc, ◌*◌, ◌/◌, ◌%◌, ◌<◌}
use lib.Dec.{T, eqb, eqb→eq, ltb, ltb→lt}
use lib.ListN.{length, get_or}
use Rattle.wire.proofs.Table.{at, every, and_left, and_right}
use Rattle.aes.specs.Field.{◌⊕◌, xtime, times, ◌•◌}
use Rattle.aes.specs.Box.{powers, inverse, turned, affine, sub_byte, printed_box, inv_affine, inv_sub_byte, printed_inv_box}
use Rattle.aes.specs.Boxes.{AtAllBytes}
use Rattle.aes.specs.Packed.{times_x}
use Rattle.aes.proofs.Bytes.{inverse_byte, sub_byte_lem, inv_sub_byte_lem}

-- ---- a box of two steps
module _ (first second : ℕ → ℕ) (check : ℕ → ℕ → Bool) where
  -- entry x at k is both steps of k, and the first step passes a check
  right : ℕ → ℕ → Bool
  right k x = let i : ℕ = first k in eqb x (second i) && check k i

  entry : (box : List ℕ) → T (every right 0 box) → (k : ℕ) → k < length box → (get_or box k 0 ≡ second (first k)) × T (check k (first k))
  unfolding right
  entry box tested k h =
      let x : ℕ = get_or box k 0 in
      let a : Bool = eqb x (second (first k)) in
      let b : Bool = check k (first k) in
      let t : T (a && b) = at right box tested k h in
      (eqb→eq x (second (first k)) (and_left a b t), and_right a b t)

-- 1, and 0 for 0, which has no inverse
abbrev pub one : ℕ → ℕ
one zero = 0
one (suc a) = 1

-- a ^ (2 + 4 + .. + 2 ^ n) as the code multiplies it, one digit of the exponent a turn
unfoldable pub square_multiply : ℕ → ℕ → ℕ
square_multiply zero a = 1
square_multiply (suc n) a = let b : ℕ = square_multiply n a • a in b • b

at_byte : (k : ℕ) → k < 256 → (get_or printed_box k 0 ≡ sub_byte k) × T (eqb (k • inverse k) (one k) && eqb (square_multiply 7 k) (inverse k))
unfolding right printed_box sub_byte affine turned inverse powers square_multiply ◌•◌ times xtime
at_byte = entry inverse affine (λ k i. eqb (k • i) (one k) && eqb (square_multiply 7 k) i) printed_box tt

both : (a b c d : ℕ) → T (eqb a b && eqb c d) → (a ≡ b) × (c ≡ d)
both a b c d t = (eqb→eq a b (and_left (eqb a b) (eqb c d) t), eqb→eq c d (and_right (eqb a b) (eqb c d) t))

of_inverse : (k : ℕ) → k < 256 → (k • inverse k ≡ one k) × (square_multiply 7 k ≡ inverse k)
of_inverse k h = both (k • inverse k) (one k) (square_multiply 7 k) (inverse k) (at_byte k h).1

pub box_is : (k : ℕ) → k < 256 → get_or printed_box k 0 ≡ sub_byte k
box_is k h = (at_byte k h).0

pub inverse_is : (k : ℕ) → k < 256 → k • inverse k ≡ one k
inverse_is k h = (of_inverse k h).0

pub square_multiply_is : (k : ℕ) → k < 256 → square_multiply 7 k ≡ inverse k
square_multiply_is k h = (of_inverse k h).1

-- ---- two functions that are equal at all bytes, counted along a list of 256
module _ (f g : ℕ → ℕ) where
  same : ℕ → ℕ → Bool
  same k x = eqb (f k) (g k)

  equal : T (every same 0 printed_box) → (k : ℕ) → k < length printed_box → f k ≡ g k
  unfolding same
  equal tested k h = eqb→eq (f k) (g k) (at same printed_box tested k h)

pub affine_is : (k : ℕ) → k < 256 → affine (inv_affine k) ≡ k
unfolding same printed_box affine inv_affine turned
affine_is = equal (λ k. affine (inv_affine k)) (λ k. k) tt

inv_affine_is : (k : ℕ) → k < 256 → inv_affine (affine k) ≡ k
unfolding same printed_box affine inv_affine turned
inv_affine_is = equal (λ k. inv_affine (affine k)) (λ k. k) tt

-- the square, digit by digit: digit i counts for x ^ (2 * i)
abbrev pub square_by_digits : ℕ → ℕ
square_by_digits b = b % 2 ⊕ b / 2 % 2 * 0x04 ⊕ b / 4 % 2 * 0x10 ⊕ b / 8 % 2 * 0x40 ⊕ b / 16 % 2 * 0x1b ⊕ b / 32 % 2 * 0x6c ⊕ b / 64 % 2 * 0xab ⊕ b / 128 % 2 * 0x9a

pub square_is : (k : ℕ) → k < 256 → square_by_digits k ≡ k • k
unfolding same printed_box ◌•◌ times xtime
square_is = equal square_by_digits (λ k. k • k) tt

-- n places to the left, one at a time
abbrev pub turned_by : ℕ → ℕ → ℕ
turned_by zero b = b
turned_by (suc n) b = times_x 1 (turned_by n b)

pub turns_are : (k : ℕ) → k < 256 → k ⊕ turned_by 4 k ⊕ turned_by 3 k ⊕ turned_by 2 k ⊕ turned_by 1 k ⊕ 0x63 ≡ affine k
unfolding same printed_box affine turned times_x
turns_are = equal (λ k. k ⊕ turned_by 4 k ⊕ turned_by 3 k ⊕ turned_by 2 k ⊕ turned_by 1 k ⊕ 0x63) affine tt

pub inv_turns_are : (k : ℕ) → k < 256 → turned_by 6 k ⊕ turned_by 3 k ⊕ turned_by 1 k ⊕ 0x05 ≡ inv_affine k
unfolding same printed_box inv_affine turned times_x
inv_turns_are = equal (λ k. turned_by 6 k ⊕ turned_by 3 k ⊕ turned_by 1 k ⊕ 0x05) inv_affine tt

-- ---- the inverse box, by the box
inverse_by : (k : ℕ) → k < 256 → inv_affine (get_or printed_box k 0) ≡ inverse k
unfolding sub_byte
inverse_by k h = ap inv_affine (box_is k h) ∙ inv_affine_is (inverse k) (inverse_byte k)

inv_at_byte : (k : ℕ) → k < 256 → (get_or printed_inv_box k 0 ≡ inv_affine (get_or printed_box (inv_affine k) 0)) × T (ltb (inv_affine k) 256)
unfolding right printed_box printed_inv_box inv_affine turned
inv_at_byte = entry inv_affine (λ a. inv_affine (get_or printed_box a 0)) (λ k a. ltb a 256) printed_inv_box tt

pub inv_affine_byte : (k : ℕ) → k < 256 → inv_affine k < 256
inv_affine_byte k h = ltb→lt (inv_affine k) 256 (inv_at_byte k h).1

pub inv_box_is : (k : ℕ) → k < 256 → get_or printed_inv_box k 0 ≡ inv_sub_byte k
unfolding inv_sub_byte
inv_box_is k h = (inv_at_byte k h).0 ∙ inverse_by (inv_affine k) (inv_affine_byte k h)

-- ---- one box behind another
module _ (box other : List ℕ) where
  -- entry x at k: the other box has k at x
  back : ℕ → ℕ → Bool
  back k x = eqb (get_or other x 0) k

  undone : (f g : ℕ → ℕ) → ((k : ℕ) → k < length box → get_or box k 0 ≡ f k) → ((k : ℕ) → k < length box → get_or other (f k) 0 ≡ g (f k))
      → T (every back 0 box) → (k : ℕ) → k < length box → g (f k) ≡ k
  unfolding back
  undone f g is other-is tested k h =
      sym (other-is k h) ∙ ap (λ (x : ℕ). get_or other x 0) (sym (is k h)) ∙ eqb→eq (get_or other (get_or box k 0) 0) k (at back box tested k h)

pub inv_sub : (b : ℕ) → b < 256 → inv_sub_byte (sub_byte b) ≡ b
unfolding back printed_box printed_inv_box
inv_sub = undone printed_box printed_inv_box sub_byte inv_sub_byte box_is (λ k h. inv_box_is (sub_byte k) (sub_byte_lem k)) tt

pub sub_inv : (b : ℕ) → b < 256 → sub_byte (inv_sub_byte b) ≡ b
unfolding back printed_box printed_inv_box
sub_inv = undone printed_inv_box printed_box inv_sub_byte sub_byte inv_box_is (λ k h. box_is (inv_sub_byte k) (inv_sub_byte_lem k)) tt

pub boxes : AtAllBytes
boxes b h = record { undone = inv_sub b h; redone = sub_inv b h; printed = box_is b h; printed_back = inv_box_is b h }
