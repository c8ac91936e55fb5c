-- `aes::ctr::counter_block` meets its contract. Assumes nothing.
use Rattle.std.proofs.Common.{◌≡◌, ℕ, List, ◌∷◌, [], sym, ap, ◌∙◌, arith, rules, w64}
use Rattle.std.specs.Int.{to_be_bytes}
use lib.ListN.{get_or}
use Rattle.aes.specs.Ctr.{high_first}
use Rattle.aes.proofs.KeyStream.{counter_is}
use Rattle.aes.proofs.ctr.counter_block.Goals as goal

by_eight : {a b c d e f g h a' b' c' d' e' f' g' h' : ℕ} → a ≡ a' → b ≡ b' → c ≡ c' → d ≡ d' → e ≡ e' → f ≡ f' → g ≡ g' → h ≡ h'
    → ◌≡◌ {A = List ℕ} (a ∷ b ∷ c ∷ d ∷ e ∷ f ∷ g ∷ h ∷ []) (a' ∷ b' ∷ c' ∷ d' ∷ e' ∷ f' ∷ g' ∷ h' ∷ [])
by_eight p q r s t u v w = λ i. p i ∷ q i ∷ r i ∷ s i ∷ t i ∷ u i ∷ v i ∷ w i ∷ []

high_bytes : (i : ℕ) → to_be_bytes w64 i ≡ high_first 8 i
high_bytes i =
    by_eight (omega arith) (omega arith) (omega arith) (omega arith) (omega arith) (omega arith) (omega arith) (omega arith)

pub returns : goal.returns
returns c =
    let pn = c.args.pn in
    let sn = c.args.sn in
    ap (λ (b : List ℕ).
    get_or pn 0 0 ∷ get_or pn 1 0 ∷ get_or pn 2 0 ∷ get_or sn 0 0 ∷ get_or sn 1 0 ∷ get_or sn 2 0 ∷ get_or sn 3 0 ∷ get_or sn 4 0
    ∷ get_or b 0 0 ∷ get_or b 1 0 ∷ get_or b 2 0 ∷ get_or b 3 0 ∷ get_or b 4 0 ∷ get_or b 5 0 ∷ get_or b 6 0 ∷ get_or b 7 0 ∷ [])
    (c.to_be_bytes-c.ensures ∙ high_bytes c.args.i)
    ∙ sym (counter_is pn sn c.args.i (search rules) (search rules))
