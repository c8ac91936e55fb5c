-- The loops of key expansion, cipher and counter mode, over any code of a round: what holds at the start, a turn, the end. Assumes nothing.
use mathlib.Core.Path.{◌≡◌, ◌∙◌, refl, sym, ap, ap₂}
use mathlib.Core.List.{List, [], ◌∷◌}
use Prim.Native.Nat.{ℕ, ◌+◌, ◌*◌, ◌≤◌, ◌<◌}
use native.Mathlib.Nat.{le_antisymm}
use native.Mathlib.Omega.{arith}
use lib.ListN.{length, get_or, set, drop, replicate, length-set}
use lib.Seq.{sets}
use borrow.Author.Count.{below_more, below_none}
use Rattle.wire.specs.Writing.{Stores, no_room}
use Rattle.wire.specs.Refusals.{refusing}
use Rattle.std.specs.Prelude.{Ok}
use Rattle.wire.proofs.Writing.{stores_short, stores_made}
use Rattle.aes.specs.Field.{xtime}
use Rattle.aes.specs.Cipher.{to_state, of_state, sub_bytes, shift_rows, add_round_key, rcon, next_key, round_key, key_expansion, round, rounds, cipher_under, cipher}
use Rattle.aes.specs.Ctr.{xors, counter_block, keystream, blocks_for, ctr_of}
use Rattle.aes.proofs.Turns.{rounds_more, key_more, rcon_more}
use Rattle.aes.proofs.Filled.{filled_more, filled}
use Rattle.aes.proofs.KeyStream.{length_ctr, ctr_start, ctr_turn, ctr_end}

-- ---- key expansion: the round keys up to i stand, and c is the round constant of the next
abbrev pub Expanded : List ℕ → List (List ℕ) → ℕ → ℕ → Type 0
Expanded key keys c i = (i ≤ 10) × (length keys ≡ 11) × (c ≡ rcon i) × ((j : ℕ) → j < i + 1 → get_or keys j [] ≡ round_key key j)

pub expanded_start : (key : List ℕ) → Expanded key (replicate 11 key) 1 0
unfolding rcon round_key
expanded_start key = (omega arith, refl, refl, below_more _ 0 (below_none _) refl)

pub expanded_turn : (key : List ℕ) (keys : List (List ℕ)) (c i : ℕ) {k : List ℕ} {d : ℕ} → Expanded key keys c i → i < 10 → k ≡ next_key c (get_or keys i [])
    → d ≡ xtime c → Expanded key (set keys (i + 1) k) d (i + 1)
expanded_turn key keys c i {k} inv h e d = (
  omega arith,
  simp length-set inv.1,
  d ∙ ap xtime inv.2 ∙ sym (rcon_more i),
  filled_more (round_key key) [] keys (i + 1) k (omega arith) inv.3
      (e ∙ ap₂ next_key inv.2 (inv.3 i (omega arith)) ∙ sym (key_more key i)),
)

pub all_expanded : (key : List ℕ) (keys : List (List ℕ)) (c i : ℕ) → Expanded key keys c i → 10 ≤ i → keys ≡ key_expansion key
unfolding key_expansion
all_expanded key keys c i inv h = filled (round_key key) [] keys 11 inv.1 (λ k lt. inv.3 k (omega arith))

-- ---- the cipher: after i rounds the state is what `rounds` says
module _ (keys : List (List ℕ)) where
  abbrev pub AfterRounds : List (List ℕ) → List (List ℕ) → ℕ → Type 0
  AfterRounds start s i = (i ≤ 9) × (s ≡ rounds keys start i)

  pub rounds_start : (start : List (List ℕ)) → AfterRounds start start 0
  unfolding rounds
  rounds_start start = (omega arith, refl)

  pub rounds_turn : (start : List (List ℕ)) (i : ℕ) {s n : List (List ℕ)} → AfterRounds start s i → i < 9 → n ≡ round (get_or keys (i + 1) []) s
      → AfterRounds start n (i + 1)
  rounds_turn start i inv h e = (omega arith, e ∙ ap (round (get_or keys (i + 1) [])) inv.1 ∙ sym (rounds_more keys start i))

  -- before and after the rounds
  pub rounds_end : (block : List ℕ) (i : ℕ) {b start s : List (List ℕ)} → b ≡ to_state block → start ≡ add_round_key (get_or keys 0 []) b
      → AfterRounds start s i → 9 ≤ i → of_state (add_round_key (get_or keys 10 []) (shift_rows (sub_bytes s))) ≡ cipher_under keys block
  unfolding cipher_under
  rounds_end block i {start = start} p q inv h =
      ap (λ (s : List (List ℕ)). of_state (add_round_key (get_or keys 10 []) (shift_rows (sub_bytes s))))
      (inv.1 ∙ ap (rounds keys start) (le_antisymm inv.0 h) ∙ ap (λ (s : List (List ℕ)). rounds keys s 9) (q ∙ ap (add_round_key (get_or keys 0 [])) p))

-- ---- counter mode: the room holds the bytes summed with the key stream of i blocks
module _ (pn sn src room : List ℕ) where
  abbrev pub Summed : List (List ℕ) → ℕ → List ℕ → ℕ → Type 0
  Summed keys blocks out i =
      (i ≤ blocks) × ((key : List ℕ) → keys ≡ key_expansion key → out ≡ sets room 0 (xors src (keystream key pn sn i))) × (length out ≡ length room)

  pub summed_start : (keys : List (List ℕ)) (blocks : ℕ) → Summed keys blocks room 0
  summed_start keys blocks = (omega arith, (λ key k. ctr_start key pn sn src room), refl)

  pub summed_turn : (keys : List (List ℕ)) (i : ℕ) {blocks : ℕ} {out next counter block : List ℕ} → Summed keys blocks out i → blocks ≡ blocks_for (length src)
      → i < blocks → counter ≡ counter_block pn sn i → block ≡ cipher_under keys counter
      → next ≡ sets out (16 * i) (xors (drop (16 * i) src) block) → length next ≡ length out → Summed keys blocks next (i + 1)
  unfolding cipher
  summed_turn keys i inv n h c b e l = (
    omega arith,
    (λ key k.
        e ∙ ap₂ (λ (o b : List ℕ). sets o (16 * i) (xors (drop (16 * i) src) b)) (inv.1 key k) (b ∙ ap₂ cipher_under k c)
        ∙ ctr_turn key pn sn src room i (omega arith)),
    l ∙ inv.2,
  )

  pub no_room_lem : (key : List ℕ) → length room < length src → Stores (no_room 0 (ctr_of key pn sn src) room ∷ []) 0 (ctr_of key pn sn src) room (refusing 25) room
  no_room_lem key h = stores_short 0 (ctr_of key pn sn src) room (omega (arith, length_ctr key pn sn src))

  pub all_summed : (key : List ℕ) {keys : List (List ℕ)} {blocks i : ℕ} {out : List ℕ} → length src ≤ length room → keys ≡ key_expansion key
      → Summed keys blocks out i → blocks ≡ blocks_for (length src) → blocks ≤ i
      → Stores (no_room 0 (ctr_of key pn sn src) room ∷ []) 0 (ctr_of key pn sn src) room (Ok (length src)) out
  all_summed key {i = i} h k inv n e =
      stores_made 0 (ctr_of key pn sn src) room (omega (arith, length_ctr key pn sn src))
      (inv.1 key k ∙ ctr_end key pn sn src room i (omega arith)) (sym (length_ctr key pn sn src))
