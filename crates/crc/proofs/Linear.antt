-- The CRC is linear: of two numbers xored it is the xor of theirs. So a table has it for each part of a number.
-- Assumes nothing.
use mathlib.Core.Path.{◌≡◌, refl, sym, ap, ap₂, ◌∙◌}
use mathlib.Core.List.{List}
use Prim.Native.Nat.{ℕ, zero, suc, ◌+◌, ◌*◌, ◌/◌, ◌%◌, ◌<◌}
use native.Mathlib.Omega.{arith}
use lib.Bits.{bit_xor, xor_shr, xor_mod, xor_lt, xor_zero_r, xor_shifted}
use lib.ListN.{get_or}
use Rattle.wire.proofs.Xor.{bit, xor_assoc, xor_swap}
use Rattle.crc.specs.Crc.{crc_bit, crc_bits, crc_byte, Shifted}

-- shifted by one place, and by eight
double : (x y : ℕ) → bit_xor x y * 2 ≡ bit_xor (x * 2) (y * 2)
double x y =
    let a : x * 2 / 2 ≡ x = omega arith in
    let b : y * 2 / 2 ≡ y = omega arith in
    let c : x * 2 % 2 ≡ 0 = omega arith in
    let d : y * 2 % 2 ≡ 0 = omega arith in
    let h : bit_xor (x * 2) (y * 2) / 2 ≡ bit_xor x y = xor_shr (x * 2) (y * 2) 1 ∙ ap₂ bit_xor a b in
    let m : bit_xor (x * 2) (y * 2) % 2 ≡ 0 = xor_mod (x * 2) (y * 2) 1 ∙ ap₂ bit_xor c d in
    omega arith

up : (x y : ℕ) → bit_xor (x * 256) (y * 256) ≡ bit_xor x y * 256
up x y =
    let a : x * 256 / 256 ≡ x = omega arith in
    let b : y * 256 / 256 ≡ y = omega arith in
    let c : x * 256 % 256 ≡ 0 = omega arith in
    let d : y * 256 % 256 ≡ 0 = omega arith in
    let h : bit_xor (x * 256) (y * 256) / 256 ≡ bit_xor x y = xor_shr (x * 256) (y * 256) 8 ∙ ap₂ bit_xor a b in
    let m : bit_xor (x * 256) (y * 256) % 256 ≡ 0 = xor_mod (x * 256) (y * 256) 8 ∙ ap₂ bit_xor c d in
    omega arith

-- a byte goes in at the top
top : (c a : ℕ) → bit_xor c (a * 256) ≡ bit_xor (bit_xor (c / 256) a * 256) (c % 256)
top c a =
    let q : bit_xor c (a * 256) / 256 ≡ bit_xor (c / 256) a =
    xor_shr c (a * 256) 8 ∙ ap (bit_xor (c / 256)) (let e : a * 256 / 256 ≡ a = omega arith in e) in
    let m : bit_xor c (a * 256) % 256 ≡ c % 256 =
    xor_mod c (a * 256) 8 ∙ ap (bit_xor (c % 256)) (let e : a * 256 % 256 ≡ 0 = omega arith in e) ∙ xor_zero_r (c % 256) in
    let s : bit_xor (bit_xor (c / 256) a * 256) (c % 256) ≡ bit_xor (c / 256) a * 256 + c % 256 =
    xor_shifted (bit_xor (c / 256) a) 8 (c % 256) (omega arith) in
    omega arith

-- ---- one bit
poly : (x y : ℕ) → x < 2 → y < 2 → bit_xor x y * 0x1021 ≡ bit_xor (x * 0x1021) (y * 0x1021)
poly x y hx hy =
    bit (λ (x : ℕ). bit_xor x y * 0x1021 ≡ bit_xor (x * 0x1021) (y * 0x1021)) refl
    (bit (λ (y : ℕ). bit_xor 1 y * 0x1021 ≡ bit_xor (1 * 0x1021) (y * 0x1021)) refl refl y hy) x hx

bit_linear : (x y : ℕ) → x < 0x10000 → y < 0x10000 → crc_bit (bit_xor x y) ≡ bit_xor (crc_bit x) (crc_bit y)
unfolding crc_bit
bit_linear x y hx hy =
    ap₂ bit_xor
    (ap (λ (z : ℕ). z % 0x10000) (double x y) ∙ xor_mod (x * 2) (y * 2) 16)
    (ap (λ (z : ℕ). z * 0x1021) (xor_shr x y 15) ∙ poly (x / 0x8000) (y / 0x8000) (omega arith) (omega arith))
    ∙ xor_swap (x * 2 % 0x10000) (y * 2 % 0x10000) (x / 0x8000 * 0x1021) (y / 0x8000 * 0x1021)

bit_below : (x : ℕ) → x < 0x10000 → crc_bit x < 0x10000
unfolding crc_bit
bit_below x h = xor_lt 16 (x * 2 % 0x10000) (x / 0x8000 * 0x1021) (omega arith) (omega arith)

bit_low : (x : ℕ) → x < 0x8000 → crc_bit x ≡ x * 2
unfolding crc_bit
bit_low x h =
    let a : x * 2 % 0x10000 ≡ x * 2 = omega arith in
    let b : x / 0x8000 * 0x1021 ≡ 0 = omega arith in
    ap₂ bit_xor a b ∙ xor_zero_r (x * 2)

-- ---- some bits
linear : (n x y : ℕ) → x < 0x10000 → y < 0x10000 → crc_bits n (bit_xor x y) ≡ bit_xor (crc_bits n x) (crc_bits n y)
linear zero x y hx hy = refl
linear (suc n) x y hx hy = ap (crc_bits n) (bit_linear x y hx hy) ∙ linear n (crc_bit x) (crc_bit y) (bit_below x hx) (bit_below y hy)

below : (n x : ℕ) → x < 0x10000 → crc_bits n x < 0x10000
below zero x h = h
below (suc n) x h = below n (crc_bit x) (bit_below x h)

low : (x : ℕ) → x < 256 → crc_bits 8 x ≡ x * 256
low x h =
    ap (crc_bits 7) (bit_low x (omega arith))
    ∙ ap (crc_bits 6) (bit_low (x * 2) (omega arith))
    ∙ ap (crc_bits 5) (bit_low (x * 2 * 2) (omega arith))
    ∙ ap (crc_bits 4) (bit_low (x * 2 * 2 * 2) (omega arith))
    ∙ ap (crc_bits 3) (bit_low (x * 2 * 2 * 2 * 2) (omega arith))
    ∙ ap (crc_bits 2) (bit_low (x * 2 * 2 * 2 * 2 * 2) (omega arith))
    ∙ ap (crc_bits 1) (bit_low (x * 2 * 2 * 2 * 2 * 2 * 2) (omega arith))
    ∙ bit_low (x * 2 * 2 * 2 * 2 * 2 * 2 * 2) (omega arith)
    ∙ (let e : x * 2 * 2 * 2 * 2 * 2 * 2 * 2 * 2 ≡ x * 256 = omega arith in e)

-- ---- one byte, and two, by tables that hold what their rule says
module _ (c a : ℕ) (hc : c < 0x10000) (ha : a < 256) where
  i_below : bit_xor (c / 256) a < 256
  i_below = xor_lt 8 (c / 256) a (omega arith) ha

  byte : crc_byte c a ≡ bit_xor (crc_bits 8 (bit_xor (c / 256) a * 256)) (c % 256 * 256)
  unfolding crc_byte
  byte =
      let hi : bit_xor (c / 256) a < 256 = i_below in
      ap (crc_bits 8) (top c a)
      ∙ linear 8 (bit_xor (c / 256) a * 256) (c % 256) (omega arith) (omega arith)
      ∙ ap (bit_xor (crc_bits 8 (bit_xor (c / 256) a * 256))) (low (c % 256) (omega arith))

  pub by_one : (t : List ℕ) → Shifted 8 t → bit_xor (get_or t (bit_xor (c / 256) a) 0) (c * 256 % 0x10000) ≡ crc_byte c a
  by_one t h =
      sym (byte ∙ ap₂ bit_xor (sym (h (bit_xor (c / 256) a) i_below)) (let e : c % 256 * 256 ≡ c * 256 % 0x10000 = omega arith in e))

  pub by_two : (t u : List ℕ) → Shifted 8 t → Shifted 16 u → (b : ℕ) → b < 256
      → bit_xor (get_or u (bit_xor (c / 256) a) 0) (get_or t (bit_xor (c % 256) b) 0) ≡ crc_byte (crc_byte c a) b
  unfolding crc_byte
  by_two t u ht hu b hb =
      let i : ℕ = bit_xor (c / 256) a in
      let j : ℕ = bit_xor (c % 256) b in
      let hi : i < 256 = i_below in
      let hj : j < 256 = xor_lt 8 (c % 256) b (omega arith) hb in
      let s : ℕ = crc_bits 8 (i * 256) in
      sym
      (ap (λ (x : ℕ). crc_bits 8 (bit_xor x (b * 256))) byte
      ∙ ap (crc_bits 8) (xor_assoc s (c % 256 * 256) (b * 256) ∙ ap (bit_xor s) (up (c % 256) b))
      ∙ linear 8 s (j * 256) (below 8 (i * 256) (omega arith)) (omega arith)
      ∙ ap₂ bit_xor (sym (hu i hi)) (sym (ht j hj)))
