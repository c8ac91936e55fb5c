-- Document 02 §3: deciphering undoes enciphering, and enciphering deciphering, for every key and every block. Each step of a round and its inverse are
-- inverses on states, and so are the ciphers, which are such steps one behind the other. Assumes nothing.
use mathlib.Core.Path.{◌≡◌, ◌∙◌, refl, sym}
use mathlib.Core.List.{List, []}
use Prim.Native.Nat.{ℕ, zero, suc, ◌+◌, ◌-◌, ◌*◌, ◌%◌, ◌<◌}
use lib.ListN.{get_or}
use Rattle.wire.proofs.Xor.{xor_twice}
use Rattle.aes.specs.Field.{◌⊕◌}
use Rattle.aes.specs.Box.{sub_byte, inv_sub_byte}
use Rattle.aes.specs.Cipher.{cell, rows, columns, from, to_state, of_state, sub_bytes, shift_rows, mixed, mix_columns, add_round_key, round, rounds, key_expansion, cipher_under, cipher}
use Rattle.aes.specs.InvCipher.{inv_sub_bytes, inv_shift_rows, inv_mixed, inv_mix_columns, inv_round, inv_rounds, inv_cipher_under, inv_cipher}
use Rattle.wire.specs.Numbers.{Bytes}
use Rattle.aes.specs.Inverse.{SixteenBytes, BothWays}
use Rattle.aes.proofs.Box.{inv_sub, sub_inv}
use Rattle.aes.proofs.Bytes.{xor_byte, sub_byte_lem, inv_sub_byte_lem, mixed_byte, inv_mixed_byte, rows_bytes, state_bytes, expansion_bytes}
use Rattle.aes.proofs.Filled.{places}
use Rattle.aes.proofs.Columns.{unmixed, remixed}
use Rattle.aes.proofs.Undoing.{Undone, Inverses, reversed, behind}

-- four rows of four bytes
pub record State (s : List (List ℕ)) : Type 0 where
  pub whole : rows (cell s) ≡ s
  pub bytes : (r c : ℕ) → cell s r c < 256

in_rows : (f : ℕ → ℕ → ℕ) → ((r c : ℕ) → f r c < 256) → State (rows f)
in_rows f h = record { whole = refl; bytes = rows_bytes f h }

-- ---- the steps
-- a step on each byte
module _ (f g : ℕ → ℕ) (byte : (b : ℕ) → f b < 256) (undo : (b : ℕ) → b < 256 → g (f b) ≡ b) where
  each_undone : Undone State State (λ s. rows (λ r c. f (cell s r c))) (λ s. rows (λ r c. g (cell s r c)))
  each_undone =
      record {
        keeps = λ s h. in_rows (λ r c. f (cell s r c)) (λ r c. byte (cell s r c));
        back = λ s h. (λ i. rows (λ r c. undo (cell s r c) (h.bytes r c) i)) ∙ h.whole;
      }

sub : Inverses State State sub_bytes inv_sub_bytes
sub = record { forth = each_undone sub_byte inv_sub_byte sub_byte_lem inv_sub; back = each_undone inv_sub_byte sub_byte inv_sub_byte_lem sub_inv }

shift : Inverses State State shift_rows inv_shift_rows
shift =
    record {
      forth = record { keeps = λ s h. in_rows (λ r c. cell s r ((c + r) % 4)) (λ r c. h.bytes r ((c + r) % 4)); back = λ s h. h.whole };
      back = record { keeps = λ s h. in_rows (λ r c. cell s r ((c + 4 - r) % 4)) (λ r c. h.bytes r ((c + 4 - r) % 4)); back = λ s h. h.whole };
    }

-- a step on each column
module _ (f g : ℕ → ℕ → ℕ → ℕ → ℕ) (byte : (a b c d : ℕ) → a < 256 → b < 256 → c < 256 → d < 256 → f a b c d < 256)
    (undo : (s : List (List ℕ)) → columns g (columns f s) ≡ rows (cell s)) where
  columns_undone : Undone State State (columns f) (columns g)
  columns_undone =
      record {
        keeps = λ s h.
            in_rows (λ r c. f (cell s r c) (cell s ((r + 1) % 4) c) (cell s ((r + 2) % 4) c) (cell s ((r + 3) % 4) c))
            (λ r c. byte _ _ _ _ (h.bytes r c) (h.bytes ((r + 1) % 4) c) (h.bytes ((r + 2) % 4) c) (h.bytes ((r + 3) % 4) c));
        back = λ s h. undo s ∙ h.whole;
      }

mix : Inverses State State mix_columns inv_mix_columns
mix = record { forth = columns_undone mixed inv_mixed mixed_byte unmixed; back = columns_undone inv_mixed mixed inv_mixed_byte remixed }

-- its own inverse
add : (k : List ℕ) → Bytes k → Inverses State State (add_round_key k) (add_round_key k)
add k hk = record { forth = undone; back = undone }
  where
    undone : Undone State State (add_round_key k) (add_round_key k)
    undone =
        record {
          keeps = λ s h. in_rows (λ r c. cell s r c ⊕ get_or k (r + 4 * c) 0) (λ r c. xor_byte (h.bytes r c) (hk (r + 4 * c)));
          back = λ s h. (λ i. rows (λ r c. xor_twice (cell s r c) (get_or k (r + 4 * c) 0) i)) ∙ h.whole;
        }

-- a block goes in, and comes out
block : Inverses SixteenBytes State to_state of_state
unfolding from
block =
    record {
      forth = record {
        keeps = λ b h. in_rows (λ r c. get_or b (r + 4 * c) 0) (λ r c. h.bytes (r + 4 * c));
        back = λ b h. sym (places 16 b h.sixteen);
      };
      back = record {
        keeps = λ s h. record { sixteen = refl; bytes = state_bytes (cell s) h.bytes };
        back = λ s h. h.whole;
      };
    }

-- ---- the rounds
sub_shift : Inverses State State (λ s. shift_rows (sub_bytes s)) (λ s. inv_sub_bytes (inv_shift_rows s))
sub_shift = behind sub shift

-- from behind one ShiftRows to behind the next
to_next : (k : List ℕ) → Bytes k
    → Inverses State State (λ s. shift_rows (sub_bytes (add_round_key k (mix_columns s)))) (λ s. inv_mix_columns (add_round_key k (inv_sub_bytes (inv_shift_rows s))))
to_next k h = behind (behind mix (add k h)) sub_shift

module _ (keys : List (List ℕ)) (h : (i : ℕ) → Bytes (get_or keys i [])) where
  all_rounds : (n : ℕ) → Inverses State State (λ s. shift_rows (sub_bytes (rounds keys s n))) (λ s. inv_sub_bytes (inv_shift_rows (inv_rounds keys s n)))
  unfolding rounds round inv_rounds inv_round
  all_rounds zero = sub_shift
  all_rounds (suc n) = behind (all_rounds n) (to_next (get_or keys (suc n) []) (h (suc n)))

  -- under any round keys
  pub ciphers : Inverses SixteenBytes SixteenBytes (cipher_under keys) (inv_cipher_under keys)
  unfolding cipher_under inv_cipher_under
  ciphers =
      behind (behind (behind (behind block (add (get_or keys 0 []) (h 0))) (all_rounds 9)) (add (get_or keys 10 []) (h 10))) (reversed block)

-- ---- under a key
pub under_key : (key : List ℕ) → Bytes key → Inverses SixteenBytes SixteenBytes (cipher key) (inv_cipher key)
unfolding cipher inv_cipher
under_key key h = ciphers (key_expansion key) (expansion_bytes key h)

pub both_ways : (key : List ℕ) → SixteenBytes key → BothWays key
both_ways key h = let i = under_key key h.bytes in record { deciphered = i.forth.back; enciphered = i.back.back }
