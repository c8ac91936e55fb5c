-- `aes::packed::products` meets its contract. Invariant: at each element, what is summed up, and the product by the digits that are left, are the product.
use mathlib.Core.Path.{◌≡◌, ◌∙◌, refl, sym, ap}
use Prim.Native.Nat.{ℕ, zero, suc, ◌+◌, ◌-◌, ◌*◌, ◌/◌, ◌%◌, ◌<◌}
use native.Mathlib.Omega.{arith}
use lib.Bits.{bit_and, xor_zero_r}
use lib.Dec.{lit<}
use borrow.Author.Rules.{rules}
use Rattle.aes.specs.Field.{◌⊕◌, xtime, times, ◌•◌}
use Rattle.aes.specs.Packed.{packed, element}
use Rattle.aes.proofs.Bytes.{xtime_byte}
use Rattle.aes.proofs.Elements.{U64, Elements, element_byte, elements, element_at, elements_lt, by_element, applied, xor_elements, and_elements, times_elements, low_digits, from_digit}
use Rattle.aes.proofs.Turns.{none_left, digit_fits, times_step}
use Rattle.aes.proofs.packed.products.Goals as goal

none : (i : ℕ) → element 0 i ≡ 0
none zero = refl
none (suc i) = none i

rest-byte : (b : ℕ) → b / 2 % 128 < 256
rest-byte b = omega arith

added : (s d x : ℕ) → U64 s → U64 d → U64 x
    → Elements (s ⊕ bit_and (bit_and d 0x0101010101010101 * 255) x) (λ i. element s i ⊕ bit_and (element d i % 2 * 255) (element x i))
unfolding packed
added s d x hs hd hx =
    xor_elements (elements s hs)
    (and_elements (times_elements (λ i. element d i % 2) 255 (low_digits d 1 hd (lit< tt)) (λ i. digit_fits (element d i) 255 (lit< tt))) (elements x hx))

behind : (d : ℕ) → U64 d → Elements (bit_and d 0xfefefefefefefefe / 2) (λ i. element d i / 2 % 128)
unfolding packed
behind d h = record { number = from_digit d 7 1 h (lit< tt); bytes = λ i. rest-byte (element d i) }

pub loop-init : goal.loop-init
unfolding ◌•◌
loop-init c =
    (search rules, lit< tt, search rules, search rules, λ i h. ap (λ (s : ℕ). s ⊕ times 8 (element c.args.k i) (element c.args.a i)) (none i))

pub loop-preserved : goal.loop-preserved
loop-preserved c =
    let l = c.loop in
    let n = 8 - l.counter in
    let s = added l.sum l.digits l.x l.invariant.1 l.invariant.2 l.invariant.3 in
    let d = behind l.digits l.invariant.2 in
    let x = applied xtime (elements l.x l.invariant.3) (λ i. xtime_byte (element l.x i)) c.xtimes-x.ensures in
    let left : 8 - (l.counter + 1) ≡ n - 1 = omega arith in (
      search rules,
      elements_lt s,
      elements_lt d,
      elements_lt x,
      λ i h.
          (λ t. element_at s i h t ⊕ times (left t) (element_at d i h t) (element_at x i h t))
          ∙ times_step n (element l.sum i) (element l.digits i) (element l.x i) (omega arith)
          (element_byte l.digits i) (element_byte l.x i)
          ∙ l.invariant.4 i h,
    )

pub returns : goal.returns
unfolding times
returns c =
    let l = c.loop in
    let a = c.args in
    by_element (λ i. element a.k i • element a.a i) (elements l.sum l.invariant.1) (λ i h.
    sym (xor_zero_r (element l.sum i))
    ∙ ap (λ (n : ℕ). element l.sum i ⊕ times n (element l.digits i) (element l.x i)) (none_left (8 - l.counter) (omega arith))
    ∙ l.invariant.4 i h)
