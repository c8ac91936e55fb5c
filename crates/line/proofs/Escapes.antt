-- An unescaped byte, and the byte behind a 5C. Assumes nothing.
use mathlib.Core.Path.{◌≡◌, refl, sym, ap, ◌∙◌}
use mathlib.Core.Bool.{Bool, true, false, ◌||◌}
use Prim.Native.Nat.{ℕ, ◌*◌, ◌<◌}
use native.Mathlib.Nat.{mul-pos}
use native.Mathlib.Omega.{arith}
use lib.Bits.{bit_xor}
use lib.Dec.{eqb}
use borrow.Author.Tests.{ne_eqb, eqb-true, eqb-false}
use Rattle.wire.proofs.Xor.{xor_twice}
use Rattle.line.specs.Escapes.{stands_for_byte}

-- ---- the byte behind a 5C, by one product
xor_pos : (a b : ℕ) → (a ≡ b → ⊥) → 0 < bit_xor a b
xor_pos a b n =
    let h : bit_xor a b ≡ 0 → ⊥ = λ z. n (sym (xor_twice a b) ∙ ap (λ (x : ℕ). bit_xor x b) z) in
    omega arith

pub one_of_two : (e : ℕ) → eqb (bit_xor e 0x3E * bit_xor e 0x1C) 0 ≡ stands_for_byte e
one_of_two e = go (eqb e 0x3E) (eqb e 0x1C) refl refl
  where
    go : (x y : Bool) → eqb e 0x3E ≡ x → eqb e 0x1C ≡ y → eqb (bit_xor e 0x3E * bit_xor e 0x1C) 0 ≡ (x || y)
    go true y p q = ap (λ (k : ℕ). eqb (bit_xor k 0x3E * bit_xor k 0x1C) 0) (eqb-true e 0x3E p)
    go false true p q = ap (λ (k : ℕ). eqb (bit_xor k 0x3E * bit_xor k 0x1C) 0) (eqb-true e 0x1C q)
    go false false p q =
        let z : 0 < bit_xor e 0x3E * bit_xor e 0x1C = mul-pos (xor_pos e 0x3E (eqb-false _ _ p)) (xor_pos e 0x1C (eqb-false _ _ q)) in
        ne_eqb _ _ (let k : bit_xor e 0x3E * bit_xor e 0x1C ≡ 0 → ⊥ = omega arith in k)
