-- `aes::packed::inverses` meets its contract. Invariant: each element is what i turns of square and multiply give. Assumes nothing.
use mathlib.Core.Path.{◌≡◌, ◌∙◌, sym, ap}
use Prim.Native.Nat.{ℕ, ◌+◌}
use native.Mathlib.Nat.{le_antisymm}
use native.Mathlib.Numerals.{add-one}
use lib.Dec.{lit<}
use borrow.Author.Rules.{rules}
use Rattle.aes.specs.Field.{◌•◌}
use Rattle.aes.specs.Box.{inverse}
use Rattle.aes.specs.Packed.{packed, element, each}
use Rattle.aes.proofs.Bytes.{mul_byte}
use Rattle.aes.proofs.Box.{square_multiply, square_multiply_is}
use Rattle.aes.proofs.Elements.{Bytewise, Elements, element_byte, elements_lt, elements, element_at, by_element, applied, repeated}
use Rattle.aes.proofs.packed.inverses.Goals as goal

more : (i a : ℕ) → square_multiply (i + 1) a ≡ (square_multiply i a • a) • (square_multiply i a • a)
unfolding square_multiply
more i a = rw add-one

once : {p y : ℕ} (x w : ℕ) → p ≡ packed 8 (λ j. element x j • element w j) → y ≡ each (λ a. a • a) p
    → Elements y (λ j. (element x j • element w j) • (element x j • element w j))
once x w e q = applied (λ a. a • a) (record { number = e; bytes = byte }) (λ j. mul_byte (element x j • element w j) (element x j • element w j) (byte j)) q
  where
    byte : Bytewise (λ j. element x j • element w j)
    byte j = mul_byte (element x j) (element w j) (element_byte w j)

pub loop-init : goal.loop-init
unfolding packed square_multiply
loop-init c = (search rules, lit< tt, λ j h. element_at (repeated 1 (lit< tt)) j h)

pub loop-preserved : goal.loop-preserved
loop-preserved c =
    let l = c.loop in
    let w = c.args.w in
    let y = once l.x w c.products.ensures c.squares-x.ensures in (
      search rules,
      elements_lt y,
      λ j h. element_at y j h ∙ ap (λ (a : ℕ). (a • element w j) • (a • element w j)) (l.invariant.2 j h) ∙ sym (more l.counter (element w j)),
    )

pub returns : goal.returns
returns c =
    let l = c.loop in
    let w = c.args.w in
    by_element (λ j. inverse (element w j)) (elements l.x l.invariant.1) (λ j h.
    l.invariant.2 j h ∙ ap (λ (n : ℕ). square_multiply n (element w j)) (le_antisymm l.invariant.0 c.loop-test.false) ∙ square_multiply_is (element w j) (element_byte w j))
