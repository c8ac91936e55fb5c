-- `aes::SubBytesSubstitution::eight` meets its contract. Assumes nothing.
use borrow.Author.Rules.{rules}
use Rattle.aes.specs.Box.{inverse, affine, sub_byte}
use Rattle.aes.proofs.Bytes.{inverse_byte, affine_byte, sub_byte_lem}
use Rattle.aes.proofs.Elements.{both_applied}
use Rattle.aes.proofs.SubBytesSubstitution.eight.Goals as goal

pub returns-clause-each : goal.returns-clause-each
unfolding sub_byte
returns-clause-each c = both_applied inverse affine (λ b h. inverse_byte b) affine_byte (search rules) c.inverses.ensures c.affines.ensures

pub returns-clause-bytes : goal.returns-clause-bytes
returns-clause-bytes c = sub_byte_lem
