-- Multiplication by a constant distributes over the sum, on all numbers; the products of MixColumns and InvMixColumns by xtime. Assumes nothing.
use mathlib.Core.Path.{◌≡◌, refl, sym, ap, ap₂, ◌∙◌}
use Prim.Native.Nat.{ℕ, zero, suc, ◌*◌, ◌/◌, ◌%◌, ◌<◌}
use native.Mathlib.Nat.{add-zero, zero-lt-suc}
use native.Mathlib.Omega.{arith}
use lib.Bits.{bit_xor, xor_shr, xor_mod, xor_block, xor_zero_r, xor_comm, xor_self}
use Rattle.wire.proofs.Xor.{bit, xor_swap, xor_assoc}
use Rattle.aes.specs.Field.{◌⊕◌, xtime, digit_times, times, ◌•◌}
use Rattle.aes.specs.Cipher.{mixed}
use Rattle.aes.specs.InvCipher.{inv_mixed}
use Rattle.aes.proofs.Mixing.{unmix}

twice_xor : (a b : ℕ) → (a ⊕ b) * 2 ≡ a * 2 ⊕ b * 2
twice_xor a b =
    sym (add-zero ((a ⊕ b) * 2)) ∙ sym (xor_block 1 a b 0 0 (zero-lt-suc 1) (zero-lt-suc 1))
    ∙ ap₂ bit_xor (add-zero (a * 2)) (add-zero (b * 2))

reduced_xor : (x y : ℕ) → x < 2 → y < 2 → (x ⊕ y) * 0x1b ≡ x * 0x1b ⊕ y * 0x1b
reduced_xor x y hx hy =
    bit (λ (x : ℕ). (x ⊕ y) * 0x1b ≡ x * 0x1b ⊕ y * 0x1b) refl
    (bit (λ (y : ℕ). (1 ⊕ y) * 0x1b ≡ 1 * 0x1b ⊕ y * 0x1b) refl refl y hy) x hx

pub xtime_xor : (a b : ℕ) → xtime (a ⊕ b) ≡ xtime a ⊕ xtime b
unfolding xtime
xtime_xor a b =
    ap₂ bit_xor (ap (λ (x : ℕ). x % 256) (twice_xor a b) ∙ xor_mod (a * 2) (b * 2) 8)
    (ap (λ (x : ℕ). x % 2 * 0x1b) (xor_shr a b 7) ∙ ap (λ (x : ℕ). x * 0x1b) (xor_mod (a / 128) (b / 128) 1)
    ∙ reduced_xor (a / 128 % 2) (b / 128 % 2) (omega arith) (omega arith))
    ∙ xor_swap (a * 2 % 256) (b * 2 % 256) (a / 128 % 2 * 0x1b) (b / 128 % 2 * 0x1b)

digit_xor : (d a b : ℕ) → digit_times d (a ⊕ b) ≡ digit_times d a ⊕ digit_times d b
digit_xor zero a b = refl
digit_xor (suc d) a b = refl

times_xor : (n k a b : ℕ) → times n k (a ⊕ b) ≡ times n k a ⊕ times n k b
unfolding times
times_xor zero k a b = refl
times_xor (suc n) k a b =
    ap₂ bit_xor (digit_xor (k % 2) a b) (ap (times n (k / 2)) (xtime_xor a b) ∙ times_xor n (k / 2) (xtime a) (xtime b))
    ∙ xor_swap (digit_times (k % 2) a) (digit_times (k % 2) b) (times n (k / 2) (xtime a)) (times n (k / 2) (xtime b))

-- a constant times a sum
pub mul_xor : (k a b : ℕ) → k • (a ⊕ b) ≡ k • a ⊕ k • b
unfolding ◌•◌
mul_xor k a b = times_xor 8 k a b

-- ---- the products of MixColumns and InvMixColumns
last : (x y : ℕ) → x ⊕ (y ⊕ 0) ≡ x ⊕ y
last x y = ap (bit_xor x) (xor_zero_r y)

mul_two : (a : ℕ) → 2 • a ≡ xtime a
unfolding ◌•◌ times
mul_two a = xor_zero_r (xtime a)

mul_three : (a : ℕ) → 3 • a ≡ a ⊕ xtime a
unfolding ◌•◌ times
mul_three a = last a (xtime a)

mul_nine : (a : ℕ) → 0x09 • a ≡ a ⊕ xtime (xtime (xtime a))
unfolding ◌•◌ times
mul_nine a = last a (xtime (xtime (xtime a)))

mul_eleven : (a : ℕ) → 0x0b • a ≡ a ⊕ (xtime a ⊕ xtime (xtime (xtime a)))
unfolding ◌•◌ times
mul_eleven a = ap (bit_xor a) (last (xtime a) (xtime (xtime (xtime a))))

mul_thirteen : (a : ℕ) → 0x0d • a ≡ a ⊕ (xtime (xtime a) ⊕ xtime (xtime (xtime a)))
unfolding ◌•◌ times
mul_thirteen a = ap (bit_xor a) (last (xtime (xtime a)) (xtime (xtime (xtime a))))

mul_fourteen : (a : ℕ) → 0x0e • a ≡ xtime a ⊕ (xtime (xtime a) ⊕ xtime (xtime (xtime a)))
unfolding ◌•◌ times
mul_fourteen a = ap (bit_xor (xtime a)) (last (xtime (xtime a)) (xtime (xtime (xtime a))))

pub mixed_is : (a b c d : ℕ) → mixed a b c d ≡ xtime a ⊕ (b ⊕ xtime b) ⊕ c ⊕ d
unfolding mixed
mixed_is a b c d = λ i. mul_two a i ⊕ mul_three b i ⊕ c ⊕ d

pub inv_mixed_is : (a b c d : ℕ) → inv_mixed a b c d ≡ unmix bit_xor 0 xtime xor_assoc xor_comm xor_self xor_zero_r xtime_xor a b c d
unfolding inv_mixed
inv_mixed_is a b c d = λ i. mul_fourteen a i ⊕ mul_eleven b i ⊕ mul_thirteen c i ⊕ mul_nine d i
