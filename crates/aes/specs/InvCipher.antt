-- FIPS 197, section 5.3: the inverse cipher.
use Rattle.std.specs.Prelude.{ℕ, zero, suc, ◌+◌, ◌-◌, ◌%◌, List, [], get_or}
use Rattle.aes.specs.Field.{◌⊕◌, ◌•◌}
use Rattle.aes.specs.Box.{inv_sub_byte}
use Rattle.aes.specs.Cipher.{rows, cell, columns, to_state, of_state, add_round_key, key_expansion}

-- section 5.3.1: row r goes r places to the right
abbrev pub inv_shift_rows : List (List ℕ) → List (List ℕ)
inv_shift_rows s = rows (λ r c. cell s r ((c + 4 - r) % 4))

-- section 5.3.2
abbrev pub inv_sub_bytes : List (List ℕ) → List (List ℕ)
inv_sub_bytes s = rows (λ r c. inv_sub_byte (cell s r c))

-- section 5.3.3: a byte of a column, from it and the three below it, counted round
unfoldable pub inv_mixed : ℕ → ℕ → ℕ → ℕ → ℕ
inv_mixed a b c d = 0x0e • a ⊕ 0x0b • b ⊕ 0x0d • c ⊕ 0x09 • d

abbrev pub inv_mix_columns : List (List ℕ) → List (List ℕ)
inv_mix_columns s = columns inv_mixed s

-- section 5.3.4: AddRoundKey is its own inverse

-- ---- section 5.3: the inverse cipher

unfoldable pub inv_round : List ℕ → List (List ℕ) → List (List ℕ)
inv_round k s = inv_mix_columns (add_round_key k (inv_sub_bytes (inv_shift_rows s)))

-- rounds n, n - 1, .. 1
unfoldable pub inv_rounds : List (List ℕ) → List (List ℕ) → ℕ → List (List ℕ)
inv_rounds keys s zero = s
inv_rounds keys s (suc n) = inv_rounds keys (inv_round (get_or keys (suc n) []) s) n

-- a block under round keys: the last of them first, nine rounds, and a last one without InvMixColumns
unfoldable pub inv_cipher_under : List (List ℕ) → List ℕ → List ℕ
inv_cipher_under keys b =
    of_state (add_round_key (get_or keys 0 []) (inv_sub_bytes (inv_shift_rows (inv_rounds keys (add_round_key (get_or keys 10 []) (to_state b)) 9))))

-- a block under a key
unfoldable pub inv_cipher : List ℕ → List ℕ → List ℕ
inv_cipher key b = inv_cipher_under (key_expansion key) b
