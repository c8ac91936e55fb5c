-- `aes::inv_cipher::inv_mix_columns` meets its contract. Assumes nothing.
use mathlib.Core.Path.{◌∙◌, ap}
use Rattle.aes.specs.Cipher.{mix_columns}
use Rattle.aes.proofs.Columns.{mixed_thrice}
use Rattle.aes.proofs.inv_cipher.inv_mix_columns.Goals as goal

pub returns : goal.returns
returns c =
    c.mix_columns-3.ensures ∙ ap mix_columns (c.mix_columns-2.ensures ∙ ap mix_columns c.mix_columns.ensures)
    ∙ mixed_thrice c.args.s
