-- An image of five slices. Assumes nothing.
use mathlib.Core.Path.{◌≡◌, ◌∙◌}
use mathlib.Core.List.{List, [], ◌∷◌, ◌++◌}
use Prim.Native.Nat.{ℕ, ◌+◌, ◌≤◌}
use native.Mathlib.Omega.{arith}
use lib.ListN.{length, length-append}
use lib.Seq.{sets}
use Rattle.wire.specs.Writing.{Stores, no_room}
use Rattle.std.specs.Prelude.{Ok}
use Rattle.wire.proofs.Lists.{sets_then}
use Rattle.wire.proofs.Writing.{stores_made}

-- a run of stores behind others, each where the last ends
sets_five : (a b c d e l : List ℕ) (i j k n : ℕ) → i ≡ length a → j ≡ i + length b → k ≡ j + length c → n ≡ k + length d
    → sets (sets (sets (sets (sets l 0 a) i b) j c) k d) n e ≡ sets l 0 (a ++ (b ++ (c ++ (d ++ e))))
sets_five a b c d e l i j k n hi hj hk hn =
    sets_then d e (sets (sets (sets l 0 a) i b) j c) k n hn
    ∙ sets_then c (d ++ e) (sets (sets l 0 a) i b) j k hk
    ∙ sets_then b (c ++ (d ++ e)) (sets l 0 a) i j hj
    ∙ sets_then a (b ++ (c ++ (d ++ e))) l 0 i (omega arith)

module _ (a b c d e room : List ℕ) where
  five_length : length (a ++ (b ++ (c ++ (d ++ e)))) ≡ length a + length b + length c + length d + length e
  five_length =
      omega (arith, length-append a (b ++ (c ++ (d ++ e))), length-append b (c ++ (d ++ e)), length-append c (d ++ e), length-append d e)

  pub five_made : {after : List ℕ} {all i j k n : ℕ} → length a + length b + length c + length d + length e ≤ length room
      → i ≡ length a → j ≡ i + length b → k ≡ j + length c → n ≡ k + length d
      → after ≡ sets (sets (sets (sets (sets room 0 a) i b) j c) k d) n e → all ≡ n + length e
      → Stores (no_room 0 (a ++ (b ++ (c ++ (d ++ e)))) room ∷ []) 0 (a ++ (b ++ (c ++ (d ++ e)))) room (Ok all) after
  five_made {i} {j} {k} {n} h hi hj hk hn s l =
      stores_made 0 (a ++ (b ++ (c ++ (d ++ e)))) room (omega (arith, five_length)) (s ∙ sets_five a b c d e room i j k n hi hj hk hn)
      (omega (arith, five_length))
