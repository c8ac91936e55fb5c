-- `aes_table::table::Fast::mixed_column` meets its contract. Assumes nothing.
use mathlib.Core.Path.{◌≡◌, ◌∙◌, ap}
use mathlib.Core.List.{List}
use Prim.Native.Nat.{ℕ}
use Rattle.std.proofs.Common.{rules}
use Rattle.wire.specs.Numbers.{le}
use Rattle.aes.specs.Field.{◌⊕◌}
use Rattle.aes.specs.Box.{sub_byte}
use Rattle.aes.specs.Cipher.{xor_word}
use Rattle.aes_table.specs.Words.{down}
use Rattle.aes_table.proofs.Columns.{le_xor, rotated_8, rotated_16, rotated_24, mixed_sum}
use Rattle.aes_table.proofs.table.Fast.mixed_column.Goals as goal

sum_of : {p q r s : List ℕ} (x y z w : ℕ) → le 4 x ≡ p → le 4 y ≡ q → le 4 z ≡ r → le 4 w ≡ s
    → le 4 (x ⊕ y ⊕ z ⊕ w) ≡ xor_word (xor_word (xor_word p q) r) s
sum_of x y z w ep eq er es =
    le_xor (x ⊕ y ⊕ z) w ∙ ap (λ (l : List ℕ). xor_word l (le 4 w)) (le_xor (x ⊕ y) z)
    ∙ ap (λ (l : List ℕ). xor_word (xor_word l (le 4 z)) (le 4 w)) (le_xor x y)
    ∙ (λ i. xor_word (xor_word (xor_word (ep i) (eq i)) (er i)) (es i))

pub returns : goal.returns
returns c =
    let a = c.args in
    sum_of c.entry.result c.rotate_left.result c.rotate_left-2.result c.rotate_left-3.result
    c.entry.ensures
    (rotated_8 c.entry-2.result (search rules) c.rotate_left.ensures ∙ ap (down 1) c.entry-2.ensures)
    (rotated_16 c.entry-3.result (search rules) c.rotate_left-2.ensures ∙ ap (down 2) c.entry-3.ensures)
    (rotated_24 c.entry-4.result (search rules) c.rotate_left-3.ensures ∙ ap (down 3) c.entry-4.ensures)
    ∙ mixed_sum (sub_byte a.a) (sub_byte a.b) (sub_byte a.c) (sub_byte a.d)
