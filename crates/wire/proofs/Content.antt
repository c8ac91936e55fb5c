-- Laws of contents. Assumes nothing.
use mathlib.Core.Path.{◌≡◌}
use mathlib.Core.List.{List}
use Prim.Native.Nat.{ℕ, zero, suc}
use native.Mathlib.Omega.{arith}
use Rattle.wire.specs.Rules.{verdict}
use Rattle.wire.specs.Content.{accepted, refused, content}

-- equal in number, values and parts
pub same_content : {n n' : ℕ} {vs vs' : List ℕ} {ps ps' : List (List ℕ)} → n ≡ n' → vs ≡ vs' → ps ≡ ps' → content n vs ps ≡ content n' vs' ps'
same_content e f g = λ i. content (e i) (f i) (g i)

-- what is accepted under a list of rules is the good answer
pub accepted_is : {A : Type 0} (n : ℕ) {good a : A} → verdict refused n (accepted good) ≡ accepted a → good ≡ a
accepted_is zero e = cc
accepted_is (suc n) e = absurd (let z : ◌≡◌ {A = ℕ} 0 1 = cc in omega arith)
