-- `session_nonce` meets its contract. Assumes nothing.
use native.Mathlib.Omega.{arith}
use borrow.Author.Rules.{rules}
use borrow.Author.Tests.{lt-ltb}
use lib.ListN.{length, get_or}
use mathlib.Core.Path.{◌≡◌, sym, subst}
use Rattle.wire.proofs.Writers.{writes_as}
use Rattle.message.proofs.Nonce.{five_elements}
use Rattle.message.specs.declared.Message.TheVariants.{SessionNonce}
use Rattle.message_write.specs.Image.{WritesMessage}
use Rattle.message_write.proofs.bodies.session_nonce.Goals as goal

pub returns : goal.returns
returns c =
    let g = c.args in
    let n = g.f.nonce in
    let five : length g.f.nonce ≡ 5 = search rules in
    subst (λ l. WritesMessage (SessionNonce (record { timeout = g.f.timeout; nonce = l })) g.bytes.now g.out.now c.typed.result c.typed.new.out)
    (sym (five_elements n five))
    (writes_as
    (simp (lt-ltb g.f.timeout.0 256 (omega arith), lt-ltb (get_or n 0 0) 256 (search rules), lt-ltb (get_or n 1 0) 256 (search rules), lt-ltb (get_or n 2 0) 256 (search rules), lt-ltb (get_or n 3 0) 256 (search rules), lt-ltb (get_or n 4 0) 256 (search rules)))
    c.typed.ensures)
