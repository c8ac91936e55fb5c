-- `aes::steps::mix` meets its contract. Assumes nothing.
use mathlib.Core.Path.{sym}
use borrow.Author.Rules.{rules}
use Rattle.aes.specs.Field.{xtime}
use Rattle.aes.specs.Cipher.{mixed}
use Rattle.aes.specs.Packed.{element}
use Rattle.aes.proofs.Bytes.{xtime_byte}
use Rattle.aes.proofs.Linear.{mixed_is}
use Rattle.aes.proofs.Elements.{elements, by_element, applied, xor_elements}
use Rattle.aes.proofs.steps.mix.Goals as goal

pub returns : goal.returns
returns c =
    let w = c.args in
    let a = elements w.a (search rules) in
    let b = elements w.b (search rules) in
    by_element (λ i. mixed (element w.a i) (element w.b i) (element w.c i) (element w.d i))
    (xor_elements (xor_elements (xor_elements (applied xtime a (λ i. xtime_byte (element w.a i)) c.xtimes.ensures)
    (xor_elements b (applied xtime b (λ i. xtime_byte (element w.b i)) c.xtimes-2.ensures)))
    (elements w.c (search rules))) (elements w.d (search rules)))
    (λ i h. sym (mixed_is (element w.a i) (element w.b i) (element w.c i) (element w.d i)))
