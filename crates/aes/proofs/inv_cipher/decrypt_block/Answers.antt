-- `aes::inv_cipher::decrypt_block` meets its contract. Invariant: the i rounds that are left give what all nine give. Assumes nothing.
use mathlib.Core.Path.{◌≡◌, ◌∙◌, ap, sym}
use mathlib.Core.List.{List, []}
use Prim.Native.Nat.{ℕ, ◌≤◌, ◌-◌}
use native.Mathlib.Omega.{arith}
use lib.ListN.{get_or}
use Rattle.aes.specs.Cipher.{add_round_key, of_state}
use Rattle.aes.specs.InvCipher.{inv_cipher_under, inv_round, inv_rounds, inv_sub_bytes, inv_shift_rows, inv_mix_columns}
use Rattle.aes.proofs.Turns.{none_left, inv_rounds_step}
use Rattle.aes.proofs.inv_cipher.decrypt_block.Goals as goal

none : (keys s s₀ : List (List ℕ)) (i : ℕ) → i ≤ 0 → inv_rounds keys s i ≡ inv_rounds keys s₀ 9 → s ≡ inv_rounds keys s₀ 9
unfolding inv_rounds
none keys s s₀ i h e = ap (inv_rounds keys s) (none_left i h) ∙ e

pub loop-i-preserved : goal.loop-i-preserved
unfolding inv_round
loop-i-preserved c =
    let keys = c.args.keys.now in
    let i = c.loop-i.i - 1 in (
      omega arith,
      omega arith,
      ap (λ (s : List (List ℕ)). inv_rounds keys s (i - 1))
          (c.inv_mix_columns-s.ensures ∙ ap inv_mix_columns (c.add_round_key.ensures ∙ ap (add_round_key (get_or keys i []))
          (c.inv_sub_bytes.ensures ∙ ap inv_sub_bytes c.inv_shift_rows.ensures)))
          ∙ sym (inv_rounds_step keys c.loop-i.s i (omega arith))
          ∙ c.loop-i.invariant.2,
    )

pub returns : goal.returns
unfolding inv_cipher_under
returns c =
    let keys = c.args.keys.now in
    c.of_state.ensures
    ∙ ap of_state (c.add_round_key-2.ensures ∙ ap (add_round_key (get_or keys 0 []))
    (c.inv_sub_bytes-2.ensures ∙ ap inv_sub_bytes (c.inv_shift_rows-2.ensures ∙ ap inv_shift_rows
    (none keys c.loop-i.s c.add_round_key-s.result (c.loop-i.i - 1) (omega arith) c.loop-i.invariant.2
    ∙ ap (λ (s : List (List ℕ)). inv_rounds keys s 9)
    (c.add_round_key-s.ensures ∙ ap (add_round_key (get_or keys 10 [])) c.to_state.ensures)))))
