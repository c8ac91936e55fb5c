-- `envelope::opening::decipher` meets its contract. Assumes nothing.
use mathlib.Core.Path.{refl, sym}
use mathlib.Core.List.{[]}
use native.Mathlib.Omega.{arith}
use Rattle.wire.proofs.Writing.{stores_made, stores_same}
use Rattle.envelope.proofs.Envelopes.{none_deciphered, deciphered_is}
use Rattle.envelope.proofs.opening.decipher.Goals as goal

pub returns-then-payload-lt4 : goal.returns-then-payload-lt4
returns-then-payload-lt4 g c =
    let a = c.args in
    stores_same 0 (sym (none_deciphered a.key a.nonce a.payload.now c.if-payload-lt4.true)) (stores_made 0 [] a.work.now (omega arith) refl refl)

pub returns : goal.returns
returns g c =
    let a = c.args in
    stores_same 0 (deciphered_is a.key a.nonce a.payload.now (omega arith)) c.apply_ctr.ensures
