-- `aes_table::words::add_round_key` meets its contract. Assumes nothing.
use mathlib.Core.Path.{◌∙◌, ap}
use mathlib.Core.List.{List}
use Prim.Native.Nat.{ℕ}
use Rattle.aes.specs.Field.{◌⊕◌}
use Rattle.aes.specs.Cipher.{rows, cell}
use Rattle.aes_table.specs.Words.{state_of}
use Rattle.aes_table.proofs.Columns.{state_xor}
use Rattle.aes_table.proofs.words.add_round_key.Goals as goal

pub returns : goal.returns
returns c =
    let s = c.args.s in
    state_xor s c.to_words-w.result ∙ ap (λ (k : List (List ℕ)). rows (λ r j. cell (state_of s) r j ⊕ cell k r j)) c.to_words-w.ensures
