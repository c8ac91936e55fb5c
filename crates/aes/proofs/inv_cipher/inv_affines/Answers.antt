-- `aes::inv_cipher::inv_affines` meets its contract. Assumes nothing.
use lib.Dec.{lit<}
use borrow.Author.Rules.{rules}
use Rattle.aes.specs.Box.{inv_affine}
use Rattle.aes.specs.Packed.{packed, element}
use Rattle.aes.proofs.Box.{inv_turns_are}
use Rattle.aes.proofs.Elements.{element_byte, elements, by_element, repeated, xor_elements, times_x_applied}
use Rattle.aes.proofs.inv_cipher.inv_affines.Goals as goal

pub returns : goal.returns
unfolding packed
returns c =
    let w = c.args.w in
    let e1 = times_x_applied 1 (lit< tt) (elements w (search rules)) c.times_x-w1.ensures in
    let e2 = times_x_applied 1 (lit< tt) e1 c.times_x-w2.ensures in
    let e3 = times_x_applied 1 (lit< tt) e2 c.times_x-w3.ensures in
    let e4 = times_x_applied 1 (lit< tt) e3 c.times_x-w4.ensures in
    let e5 = times_x_applied 1 (lit< tt) e4 c.times_x-w5.ensures in
    let e6 = times_x_applied 1 (lit< tt) e5 c.times_x-w6.ensures in
    by_element (λ i. inv_affine (element w i)) (xor_elements (xor_elements (xor_elements e6 e3) e1) (repeated 0x05 (lit< tt)))
    (λ i h. inv_turns_are (element w i) (element_byte w i))
