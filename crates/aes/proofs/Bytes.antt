-- What stays below 256: products, substituted bytes, words, round keys. Assumes nothing.
use mathlib.Core.List.{List, [], ◌∷◌, ◌++◌}
use Prim.Native.Nat.{ℕ, zero, suc, ◌+◌, ◌*◌, ◌/◌, ◌%◌, ◌<◌}
use native.Mathlib.Nat.{mod-lt}
use native.Mathlib.Omega.{arith}
use lib.Bits.{xor_lt}
use lib.Dec.{T, lit<, ltb, ltb→lt}
use lib.ListN.{get_or}
use Rattle.wire.specs.Numbers.{Bytes}
use Rattle.wire.proofs.Table.{every, and_left, and_right}
use Rattle.aes.specs.Field.{◌⊕◌, xtime, digit_times, times, ◌•◌}
use Rattle.aes.specs.Box.{powers, inverse, turned, affine, sub_byte, inv_affine, inv_sub_byte}
use Rattle.aes.specs.Cipher.{four, rows, cell, of_state, mixed, word, xor_word, rot_word, sub_word, chained, rcon, next_key, round_key, from, key_expansion}
use Rattle.aes.specs.InvCipher.{inv_mixed}
use Rattle.aes.specs.Packed.{times_x}
use Rattle.aes.proofs.Turns.{digit_fits}

-- ---- bytes
pub xor_byte : {a b : ℕ} → a < 256 → b < 256 → a ⊕ b < 256
xor_byte {a} {b} ha hb = xor_lt 8 a b ha hb

pub times_x_byte : (r b : ℕ) → r < 256 → times_x r b < 256
unfolding times_x
times_x_byte r b h = xor_byte (mod-lt (b * 2) (lit< tt)) (digit_fits (b / 128) r h)

pub xtime_byte : (b : ℕ) → xtime b < 256
unfolding xtime times_x
xtime_byte b = times_x_byte 0x1b b (lit< tt)

digit_byte : (d a : ℕ) → a < 256 → digit_times d a < 256
digit_byte zero a h = lit< tt
digit_byte (suc d) a h = h

times_byte : (n k a : ℕ) → a < 256 → times n k a < 256
unfolding times
times_byte zero k a h = lit< tt
times_byte (suc n) k a h = xor_byte (digit_byte (k % 2) a h) (times_byte n (k / 2) (xtime a) (xtime_byte a))

pub mul_byte : (k a : ℕ) → a < 256 → k • a < 256
unfolding ◌•◌
mul_byte k a h = times_byte 8 k a h

powers_byte : (n a : ℕ) → powers n a < 256
unfolding powers
powers_byte zero a = lit< tt
powers_byte (suc n) a = mul_byte (a • a) (powers n (a • a)) (powers_byte n (a • a))

pub inverse_byte : (b : ℕ) → inverse b < 256
unfolding inverse
inverse_byte b = powers_byte 7 b

pub affine_byte : (b : ℕ) → b < 256 → affine b < 256
unfolding affine turned
affine_byte b h =
    xor_byte (xor_byte (xor_byte (xor_byte (xor_byte h (turn_4 b h)) (turn_3 b h)) (turn_2 b h)) (turn_1 b h)) (lit< tt)
  where
    turn_4 : (b : ℕ) → b < 256 → b % 16 * 16 + b / 16 < 256
    turn_4 b h = omega arith

    turn_3 : (b : ℕ) → b < 256 → b % 32 * 8 + b / 32 < 256
    turn_3 b h = omega arith

    turn_2 : (b : ℕ) → b < 256 → b % 64 * 4 + b / 64 < 256
    turn_2 b h = omega arith

    turn_1 : (b : ℕ) → b < 256 → b % 128 * 2 + b / 128 < 256
    turn_1 b h = omega arith

-- whatever is substituted, and back
pub sub_byte_lem : (b : ℕ) → sub_byte b < 256
unfolding sub_byte
sub_byte_lem b = affine_byte (inverse b) (inverse_byte b)

pub inv_sub_byte_lem : (b : ℕ) → inv_sub_byte b < 256
unfolding inv_sub_byte
inv_sub_byte_lem b = inverse_byte (inv_affine b)

-- a column's byte, mixed and back
pub mixed_byte : (a b c d : ℕ) → a < 256 → b < 256 → c < 256 → d < 256 → mixed a b c d < 256
unfolding mixed
mixed_byte a b c d ha hb hc hd = xor_byte (xor_byte (xor_byte (mul_byte 2 a ha) (mul_byte 3 b hb)) hc) hd

pub inv_mixed_byte : (a b c d : ℕ) → a < 256 → b < 256 → c < 256 → d < 256 → inv_mixed a b c d < 256
unfolding inv_mixed
inv_mixed_byte a b c d ha hb hc hd =
    xor_byte (xor_byte (xor_byte (mul_byte 0x0e a ha) (mul_byte 0x0b b hb)) (mul_byte 0x0d c hc)) (mul_byte 0x09 d hd)

-- ---- lists of bytes
-- what holds of f 0 .. f 3, and of what stands for an element past the end
four_all : {A : Type 0} (P : A → Type 0) (f : ℕ → A) (d : A) → P d → ((i : ℕ) → P (f i)) → (i : ℕ) → P (get_or (four f) i d)
four_all P f d p h zero = h 0
four_all P f d p h (suc zero) = h 1
four_all P f d p h (suc (suc zero)) = h 2
four_all P f d p h (suc (suc (suc zero))) = h 3
four_all P f d p h (suc (suc (suc (suc i)))) = p

pub four_bytes : (f : ℕ → ℕ) → ((i : ℕ) → f i < 256) → Bytes (four f)
four_bytes f h = four_all (λ (b : ℕ). b < 256) f 0 (lit< tt) h

pub rows_bytes : (f : ℕ → ℕ → ℕ) → ((r c : ℕ) → f r c < 256) → (r c : ℕ) → cell (rows f) r c < 256
rows_bytes f h = four_all Bytes (λ r. four (λ c. f r c)) [] (λ c. lit< tt) (λ r. four_bytes (λ c. f r c) (h r))

-- bytes that are written out, by a test that is computed
pub listed_bytes : (s : List ℕ) (k : ℕ) → T (every (λ i b. ltb b 256) k s) → Bytes s
listed_bytes [] k t i = lit< tt
listed_bytes (b ∷ s) k t zero = ltb→lt b 256 (and_left (ltb b 256) (every (λ i b. ltb b 256) (suc k) s) t)
listed_bytes (b ∷ s) k t (suc i) = listed_bytes s (suc k) (and_right (ltb b 256) (every (λ i b. ltb b 256) (suc k) s) t) i

pub append_bytes : (a b : List ℕ) → Bytes a → Bytes b → Bytes (a ++ b)
append_bytes [] b ha hb i = hb i
append_bytes (x ∷ a) b ha hb zero = ha 0
append_bytes (x ∷ a) b ha hb (suc i) = append_bytes a b (λ j. ha (suc j)) hb i

four_words : (a b c d : List ℕ) → Bytes a → Bytes b → Bytes c → Bytes d → Bytes (a ++ (b ++ (c ++ d)))
four_words a b c d ha hb hc hd = append_bytes a (b ++ (c ++ d)) ha (append_bytes b (c ++ d) hb (append_bytes c d hc hd))

-- a state's bytes, as a block
pub state_bytes : (f : ℕ → ℕ → ℕ) → ((r c : ℕ) → f r c < 256) → Bytes (of_state (rows f))
state_bytes f h =
    four_words (four (λ r. f r 0)) (four (λ r. f r 1)) (four (λ r. f r 2)) (four (λ r. f r 3))
    (four_bytes (λ r. f r 0) (λ r. h r 0)) (four_bytes (λ r. f r 1) (λ r. h r 1)) (four_bytes (λ r. f r 2) (λ r. h r 2)) (four_bytes (λ r. f r 3) (λ r. h r 3))

-- ---- round keys
xor_bytes : (a b : List ℕ) → Bytes a → Bytes b → Bytes (xor_word a b)
xor_bytes a b ha hb = four_bytes (λ i. get_or a i 0 ⊕ get_or b i 0) (λ i. xor_byte (ha i) (hb i))

word_bytes : (k : List ℕ) (j : ℕ) → Bytes k → Bytes (word k j)
word_bytes k j h = four_bytes (λ i. get_or k (4 * j + i) 0) (λ i. h (4 * j + i))

chained_bytes : (k t : List ℕ) → Bytes k → Bytes t → Bytes (chained k t)
chained_bytes k t hk ht =
    let w0 : List ℕ = xor_word (word k 0) t in
    let h0 : Bytes w0 = xor_bytes (word k 0) t (word_bytes k 0 hk) ht in
    let w1 : List ℕ = xor_word (word k 1) w0 in
    let h1 : Bytes w1 = xor_bytes (word k 1) w0 (word_bytes k 1 hk) h0 in
    let w2 : List ℕ = xor_word (word k 2) w1 in
    let h2 : Bytes w2 = xor_bytes (word k 2) w1 (word_bytes k 2 hk) h1 in
    four_words w0 w1 w2 (xor_word (word k 3) w2) h0 h1 h2 (xor_bytes (word k 3) w2 (word_bytes k 3 hk) h2)

rcon_byte : (n : ℕ) → rcon n < 256
unfolding rcon
rcon_byte zero = lit< tt
rcon_byte (suc n) = xtime_byte (rcon n)

constant_bytes : (c : ℕ) → c < 256 → Bytes (c ∷ 0 ∷ 0 ∷ 0 ∷ [])
constant_bytes c h zero = h
constant_bytes c h (suc i) = four_bytes (λ j. 0) (λ j. lit< tt) (suc i)

next_bytes : (c : ℕ) (k : List ℕ) → c < 256 → Bytes k → Bytes (next_key c k)
unfolding next_key
next_bytes c k hc hk =
    let w : List ℕ = sub_word (rot_word (word k 3)) in
    chained_bytes k (xor_word (c ∷ 0 ∷ 0 ∷ 0 ∷ []) w) hk
    (xor_bytes (c ∷ 0 ∷ 0 ∷ 0 ∷ []) w (constant_bytes c hc) (four_bytes (λ i. sub_byte (get_or (rot_word (word k 3)) i 0)) (λ i. sub_byte_lem (get_or (rot_word (word k 3)) i 0))))

pub key_bytes : (key : List ℕ) → Bytes key → (n : ℕ) → Bytes (round_key key n)
unfolding round_key
key_bytes key h zero = h
key_bytes key h (suc n) = next_bytes (rcon n) (round_key key n) (rcon_byte n) (key_bytes key h n)

-- all eleven, and what stands for one past the end
expansion_from : (key : List ℕ) → Bytes key → (n i j : ℕ) → Bytes (get_or (from (round_key key) i n) j [])
unfolding from
expansion_from key h zero i j = λ c. lit< tt
expansion_from key h (suc n) i zero = key_bytes key h i
expansion_from key h (suc n) i (suc j) = expansion_from key h n (suc i) j

pub expansion_bytes : (key : List ℕ) → Bytes key → (j : ℕ) → Bytes (get_or (key_expansion key) j [])
unfolding key_expansion
expansion_bytes key h = expansion_from key h 11 0
