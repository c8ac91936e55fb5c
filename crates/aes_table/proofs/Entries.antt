-- An entry of the table holds the products of its byte, substituted. Assumes nothing.
use mathlib.Core.Path.{◌≡◌, ◌∙◌, ap}
use mathlib.Core.List.{List}
use Prim.Native.Nat.{ℕ, ◌<◌}
use lib.ListN.{get_or, get_or-map}
use Rattle.wire.specs.Numbers.{num, le}
use Rattle.aes.specs.Field.{xtime, times, ◌•◌}
use Rattle.aes.specs.Box.{printed_box, sub_byte}
use Rattle.aes.proofs.Bytes.{mul_byte, sub_byte_lem}
use Rattle.aes.proofs.Box.{box_is}
use Rattle.aes_table.specs.Words.{products, table}
use Rattle.aes_table.proofs.Columns.{bytes_four, le_four}

at_byte : (k : ℕ) → get_or table k 0 ≡ num 4 0 (products (get_or printed_box k 0))
unfolding table ◌•◌ times xtime
at_byte k = get_or-map (λ s. num 4 0 (products s)) printed_box k 0

pub entry_is : (t : List ℕ) (b : ℕ) → t ≡ table → b < 256 → le 4 (get_or t b 0) ≡ products (sub_byte b)
entry_is t b e h =
    let s : ℕ = sub_byte b in
    ap (λ (l : List ℕ). le 4 (get_or l b 0)) e ∙ ap (le 4) (at_byte b ∙ ap (λ (x : ℕ). num 4 0 (products x)) (box_is b h))
    ∙ le_four (λ i. get_or (products s) i 0) (bytes_four (mul_byte 2 s (sub_byte_lem b)) (sub_byte_lem b) (sub_byte_lem b) (mul_byte 3 s (sub_byte_lem b)))
