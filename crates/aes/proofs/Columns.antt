-- MixColumns four times changes nothing, and three times is InvMixColumns; so each undoes the other. Assumes nothing.
use mathlib.Core.Path.{◌≡◌, ◌∙◌, sym, ap}
use mathlib.Core.List.{List}
use Prim.Native.Nat.{ℕ}
use lib.Bits.{bit_xor, xor_zero_r, xor_comm, xor_self}
use Rattle.wire.proofs.Xor.{xor_assoc}
use Rattle.aes.specs.Field.{xtime}
use Rattle.aes.specs.Cipher.{cell, four, rows, columns, mixed, mix_columns}
use Rattle.aes.specs.InvCipher.{inv_mixed, inv_mix_columns}
use Rattle.aes.proofs.Cells.{by_four}
use Rattle.aes.proofs.Linear.{xtime_xor, mixed_is, inv_mixed_is}
use Rattle.aes.proofs.Mixing.{twice as twice_of, mix_mix, mix_twice, twice_twice}

-- one step on the columns behind another, by a law of the four bytes of a column
module _ (f g h : ℕ → ℕ → ℕ → ℕ → ℕ) (law : (a b c d : ℕ) → f (g a b c d) (g b c d a) (g c d a b) (g d a b c) ≡ h a b c d) where
  columns_behind : (s : List (List ℕ)) → columns f (columns g s) ≡ columns h s
  columns_behind s =
      by_four (λ i. four (λ c. law (cell s 0 c) (cell s 1 c) (cell s 2 c) (cell s 3 c) i))
      (λ i. four (λ c. law (cell s 1 c) (cell s 2 c) (cell s 3 c) (cell s 0 c) i))
      (λ i. four (λ c. law (cell s 2 c) (cell s 3 c) (cell s 0 c) (cell s 1 c) i))
      (λ i. four (λ c. law (cell s 3 c) (cell s 0 c) (cell s 1 c) (cell s 2 c) i))

abbrev twice : ℕ → ℕ → ℕ → ℕ → ℕ
twice a b c d = twice_of bit_xor 0 xtime xor_assoc xor_comm xor_self xor_zero_r xtime_xor a c

mixed_twice : (s : List (List ℕ)) → mix_columns (mix_columns s) ≡ columns twice s
mixed_twice =
    columns_behind mixed mixed twice
    (λ a b c d.
    (λ i. mixed (mixed_is a b c d i) (mixed_is b c d a i) (mixed_is c d a b i) (mixed_is d a b c i))
    ∙ mixed_is _ _ _ _
    ∙ mix_mix bit_xor 0 xtime xor_assoc xor_comm xor_self xor_zero_r xtime_xor a b c d)

pub mixed_thrice : (s : List (List ℕ)) → mix_columns (mix_columns (mix_columns s)) ≡ inv_mix_columns s
mixed_thrice s =
    ap mix_columns (mixed_twice s)
    ∙ columns_behind mixed twice inv_mixed
    (λ a b c d.
    mixed_is _ _ _ _ ∙ mix_twice bit_xor 0 xtime xor_assoc xor_comm xor_self xor_zero_r xtime_xor a b c d ∙ sym (inv_mixed_is a b c d)) s

four_times : (s : List (List ℕ)) → mix_columns (mix_columns (mix_columns (mix_columns s))) ≡ rows (cell s)
four_times s =
    mixed_twice (mix_columns (mix_columns s))
    ∙ ap (columns twice) (mixed_twice s)
    ∙ columns_behind twice twice (λ a b c d. a) (λ a b c d. twice_twice bit_xor 0 xtime xor_assoc xor_comm xor_self xor_zero_r xtime_xor a c) s

pub unmixed : (s : List (List ℕ)) → inv_mix_columns (mix_columns s) ≡ rows (cell s)
unmixed s = sym (mixed_thrice (mix_columns s)) ∙ four_times s

pub remixed : (s : List (List ℕ)) → mix_columns (inv_mix_columns s) ≡ rows (cell s)
remixed s = sym (ap mix_columns (mixed_thrice s)) ∙ four_times s
