-- `aes::steps::mix_rows` meets its contract. Assumes nothing.
use mathlib.Core.Path.{◌≡◌, ◌∙◌}
use Prim.Native.Nat.{ℕ}
use borrow.Author.Rules.{rules}
use Rattle.aes.specs.Cipher.{mixed}
use Rattle.aes.specs.Packed.{packed, element}
use Rattle.aes.proofs.Bytes.{mixed_byte}
use Rattle.aes.proofs.Elements.{Elements, element_at, same_elements, of_rows, both_rows}
use Rattle.aes.proofs.steps.mix_rows.Goals as goal

mixed-elements : {p q r s v : ℕ} {f g h k : ℕ → ℕ} → Elements p f → Elements q g → Elements r h → Elements s k
    → v ≡ packed 8 (λ i. mixed (element p i) (element q i) (element r i) (element s i)) → Elements v (λ i. mixed (f i) (g i) (h i) (k i))
mixed-elements {p} {q} {r} {s} {f = f} {g = g} {h = h} {k = k} a b c d e =
    record {
      number = e ∙ same_elements 8 (λ i. mixed (element p i) (element q i) (element r i) (element s i)) (λ i. mixed (f i) (g i) (h i) (k i))
          (λ i lt t. mixed (element_at a i lt t) (element_at b i lt t) (element_at c i lt t) (element_at d i lt t));
      bytes = λ i. mixed_byte (f i) (g i) (h i) (k i) (a.bytes i) (b.bytes i) (c.bytes i) (d.bytes i);
    }

pub returns : goal.returns
returns c =
    let w = c.args in
    let ab = of_rows w.a w.b (λ i. search rules) (λ i. search rules) c.pack.ensures in
    let bc = of_rows w.b w.c (λ i. search rules) (λ i. search rules) c.pack-2.ensures in
    let cd = of_rows w.c w.d (λ i. search rules) (λ i. search rules) c.pack-3.ensures in
    let da = of_rows w.d w.a (λ i. search rules) (λ i. search rules) c.pack-4.ensures in
    c.unpack.ensures
    ∙ both_rows (mixed-elements ab bc cd da c.mix.ensures)
