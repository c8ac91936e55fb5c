-- `aes_table::FastBlockCipher::next_key` meets its contract. Assumes nothing.
use mathlib.Core.Path.{◌∙◌}
use borrow.Author.Rules.{rules}
use Rattle.aes.specs.Cipher.{next_key, of_state, xor_word, chained}
use Rattle.aes_table.proofs.Columns.{le_byte, chained_words}
use Rattle.aes_table.proofs.FastBlockCipher.next_key.Goals as goal

pub returns : goal.returns
unfolding next_key
returns c =
    let x = c.args.c in
    c.of_words.ensures ∙ chained_words c.to_words-k0.result x c.sub_word.result
    ∙ (λ i. chained (of_state (c.to_words-k0.ensures i)) (xor_word (le_byte x (search rules) i) (c.sub_word.ensures i)))
