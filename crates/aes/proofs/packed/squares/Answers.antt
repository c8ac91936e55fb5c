-- `aes::packed::squares` meets its contract. Assumes nothing.
use Prim.Native.Nat.{ℕ, ◌%◌, ◌<◌}
use native.Mathlib.Omega.{arith}
use lib.Dec.{lit<}
use borrow.Author.Rules.{rules}
use Rattle.aes.specs.Field.{◌•◌}
use Rattle.aes.specs.Packed.{packed, element}
use Rattle.aes.proofs.Box.{square_is}
use Rattle.aes.proofs.Elements.{U64, element_byte, by_element, xor_elements, low_digits, digit}
use Rattle.aes.proofs.packed.squares.Goals as goal

low_byte : (b : ℕ) → b % 2 < 256
low_byte b = omega arith

pub returns : goal.returns
unfolding packed
returns c =
    let w = c.args.w in
    let h : U64 w = search rules in
    by_element (λ i. element w i • element w i)
    (xor_elements (xor_elements (xor_elements (xor_elements (xor_elements (xor_elements (xor_elements
    (record { number = low_digits w 1 h (lit< tt); bytes = λ i. low_byte (element w i) })
    (digit w 1 0x04 h (lit< tt) (lit< tt))) (digit w 2 0x10 h (lit< tt) (lit< tt))) (digit w 3 0x40 h (lit< tt) (lit< tt))) (digit w 4 0x1b h (lit< tt) (lit< tt)))
    (digit w 5 0x6c h (lit< tt) (lit< tt))) (digit w 6 0xab h (lit< tt) (lit< tt))) (digit w 7 0x9a h (lit< tt) (lit< tt)))
    (λ i lt. square_is (element w i) (element_byte w i))
