-- `aes::affines` meets its contract. Assumes nothing.
use lib.Dec.{lit<}
use borrow.Author.Rules.{rules}
use Rattle.aes.specs.Box.{affine}
use Rattle.aes.specs.Packed.{packed, element}
use Rattle.aes.proofs.Box.{turns_are}
use Rattle.aes.proofs.Elements.{element_byte, elements, by_element, repeated, xor_elements, times_x_applied}
use Rattle.aes.proofs.affines.Goals as goal

pub returns : goal.returns
unfolding packed
returns c =
    let w = c.args.w in
    let e0 = elements w (search rules) in
    let e1 = times_x_applied 1 (lit< tt) e0 c.times_x-w1.ensures in
    let e2 = times_x_applied 1 (lit< tt) e1 c.times_x-w2.ensures in
    let e3 = times_x_applied 1 (lit< tt) e2 c.times_x-w3.ensures in
    let e4 = times_x_applied 1 (lit< tt) e3 c.times_x-w4.ensures in
    by_element (λ i. affine (element w i))
    (xor_elements (xor_elements (xor_elements (xor_elements (xor_elements e0 e4) e3) e2) e1) (repeated 0x63 (lit< tt)))
    (λ i h. turns_are (element w i) (element_byte w i))
