-- One round more, one round key more, one round constant more, one digit and one inverse round less, counted as the code counts. Assumes nothing.
use mathlib.Core.Path.{◌≡◌, ◌∙◌}
use mathlib.Core.List.{List, []}
use Prim.Native.Nat.{ℕ, zero, suc, ◌+◌, ◌-◌, ◌*◌, ◌/◌, ◌%◌, ◌≤◌, ◌<◌}
use native.Mathlib.Nat.{not-suc-le-zero, zero-mul, one-mul, mod-eq_of_lt}
use native.Mathlib.Omega.{arith}
use native.Mathlib.Numerals.{add-one, sub-one}
use lib.Bits.{bit_and, and_zero_l, and_comm, and_mask}
use lib.ListN.{get_or}
use Rattle.wire.proofs.Xor.{bit, xor_assoc}
use Rattle.aes.specs.Field.{◌⊕◌, xtime, digit_times, times}
use Rattle.aes.specs.Cipher.{round, rounds, round_key, rcon, next_key}
use Rattle.aes.specs.InvCipher.{inv_round, inv_rounds}

pub rounds_more : (keys s : List (List ℕ)) (i : ℕ) → rounds keys s (i + 1) ≡ round (get_or keys (i + 1) []) (rounds keys s i)
unfolding rounds
rounds_more keys s i = rw add-one

pub key_more : (key : List ℕ) (i : ℕ) → round_key key (i + 1) ≡ next_key (rcon i) (round_key key i)
unfolding round_key
key_more key i = rw add-one

pub rcon_more : (i : ℕ) → rcon (i + 1) ≡ xtime (rcon i)
unfolding rcon
rcon_more i = rw add-one

-- none is left
pub none_left : (n : ℕ) → n ≤ 0 → 0 ≡ n
none_left n h = omega arith

-- a digit of a number times a byte is a byte
pub digit_fits : (k a : ℕ) → a < 256 → k % 2 * a < 256
digit_fits k a h = bit (λ (d : ℕ). d * a < 256) (omega (arith, zero-mul a)) (omega (arith, one-mul a)) (k % 2) (omega arith)

digit_is : (d a : ℕ) → d < 2 → a < 256 → bit_and (d * 255) a ≡ digit_times d a
digit_is d a hd ha =
    bit (λ (d : ℕ). bit_and (d * 255) a ≡ digit_times d a) (and_zero_l a) (and_comm 255 a ∙ and_mask a 8 ∙ mod-eq_of_lt ha) d hd

half_is : (k : ℕ) → k < 256 → k / 2 % 128 ≡ k / 2
half_is k h = omega arith

-- one digit of a product, behind what is summed up
pub times_step : (n s k a : ℕ) → 0 < n → k < 256 → a < 256
    → s ⊕ bit_and (k % 2 * 255) a ⊕ times (n - 1) (k / 2 % 128) (xtime a) ≡ s ⊕ times n k a
unfolding times
times_step zero s k a h hk ha = absurd (not-suc-le-zero h)
times_step (suc n) s k a h hk ha =
    xor_assoc s (bit_and (k % 2 * 255) a) (times (suc n - 1) (k / 2 % 128) (xtime a))
    ∙ rw (sub-one, digit_is (k % 2) a (omega arith) ha, half_is k hk)

pub inv_rounds_step : (keys s : List (List ℕ)) (n : ℕ) → 0 < n → inv_rounds keys s n ≡ inv_rounds keys (inv_round (get_or keys n []) s) (n - 1)
unfolding inv_rounds
inv_rounds_step keys s zero h = absurd (not-suc-le-zero h)
inv_rounds_step keys s (suc n) h = rw sub-one
