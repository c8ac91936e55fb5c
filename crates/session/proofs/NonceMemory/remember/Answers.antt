-- `session::NonceMemory::remember` meets its contract. Assumes nothing.
use mathlib.Core.Path.{◌≡◌, ap, ap₂, ◌∙◌}
use mathlib.Core.List.{List}
use Prim.Native.Nat.{ℕ, ◌+◌, min}
use lib.ListN.{length}
use Rattle.session.specs.Memory.{in_front, remembering}
use Rattle.session.specs.declared.NonceMemory.{NonceMemory}
use Rattle.session.proofs.Remembered.{eight_places}
use borrow.Author.Rules.{rules}
use native.Mathlib.Omega.{arith}
use Rattle.session.proofs.NonceMemory.remember.Goals as goal

pub returns : goal.returns
unfolding remembering
returns c =
    let m = c.limited-memory in
    let n = c.args.number in
    let long : length m.result.nonces ≡ 8 = search rules in
    ap₂ {C = NonceMemory} (λ (k : ℕ) (ns : List ℕ). record { count = k; nonces = ns }) (omega arith) (eight_places n m.result.nonces long)
    ∙ ap {B = NonceMemory} (λ (x : NonceMemory). record { count = min 8 (x.count + 1); nonces = in_front n x.nonces }) m.ensures.0
