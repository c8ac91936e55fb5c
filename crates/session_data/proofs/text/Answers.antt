-- `session_data::text` meets its contract. Assumes nothing.
use mathlib.Core.Path.{sym}
use borrow.Author.Rules.{rules}
use Rattle.aes.specs.Cipher.{from}
use Rattle.session_data.proofs.Judging.{text_is}
use Rattle.session_data.proofs.text.Goals as goal

pub returns : goal.returns
unfolding from
returns c = sym (text_is c.args.nonce c.args.validation (search rules) (search rules))
