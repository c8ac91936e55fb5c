-- `aes::next_key` meets its contract. Assumes nothing.
use mathlib.Core.Path.{◌∙◌, ap}
use mathlib.Core.List.{List, [], ◌∷◌}
use Prim.Native.Nat.{ℕ}
use lib.Bits.{bit_xor}
use lib.ListN.{get_or}
use Rattle.aes.specs.Cipher.{next_key, chained}
use Rattle.aes.proofs.next_key.Goals as goal

pub returns : goal.returns
unfolding next_key
returns c =
    let a = c.args in
    c.chain.ensures
    ∙ ap (λ (w : List ℕ). chained a.k (bit_xor a.c (get_or w 0 0) ∷ get_or w 1 0 ∷ get_or w 2 0 ∷ get_or w 3 0 ∷ [])) c.sub_word-w.ensures
