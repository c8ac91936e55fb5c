-- `filled` meets its contract. Assumes nothing.
use Rattle.std.proofs.Common.{arith, ℕ, ◌≡◌, ◌≤◌, ◌<◌, ◌+◌, get_or}
use Rattle.std.proofs.lemmas.Grind.{common_steps}
use Rattle.session_text.proofs.Places.{filled_is}
use Rattle.session_text.proofs.filled.Goals as goal

pub returns : goal.returns
returns c =
    let r : ℕ = c.map_or.result in
    let top : r ≤ 8 = grind (arith, common_steps) in
    let zero : (k : ℕ) → r ≤ k → k < 8 → get_or c.args.places k 0 ≡ 0 = λ k h l. grind (arith, common_steps) in
    let last : (i : ℕ) → r ≡ i + 1 → get_or c.args.places i 0 ≡ 0 → ⊥ = λ i h e. grind (arith, common_steps) in
    (filled_is c.args.places 8 r top zero last, top)
