-- `aes::packed::inverses` meets its contract. Invariant: each element is what i turns of square and multiply give. Assumes nothing.
use mathlib.Core.Path.{◌≡◌}
use Prim.Native.Nat.{ℕ, ◌≤◌, ◌<◌}
use Rattle.aes.specs.Packed.{element}
use Rattle.aes.proofs.Box.{square_multiply}
use Rattle.aes.proofs.Elements.{U64}
use Rattle.aes.proofs.packed.inverses.Given as goal

abbrev pub invariant-loop : goal.invariant-loop
invariant-loop l = (l.counter ≤ 7) × U64 l.x × ((j : ℕ) → j < 8 → element l.x j ≡ square_multiply l.counter (element l.w j))
