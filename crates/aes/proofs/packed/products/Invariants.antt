-- `aes::packed::products` meets its contract. Invariant: at each element, what is summed up, and the product by the digits that are left, are the product.
use mathlib.Core.Path.{◌≡◌}
use Prim.Native.Nat.{ℕ, ◌<◌, ◌-◌, ◌≤◌}
use Rattle.aes.specs.Field.{◌⊕◌, times, ◌•◌}
use Rattle.aes.specs.Packed.{element}
use Rattle.aes.proofs.Elements.{U64}
use Rattle.aes.proofs.packed.products.Given as goal

abbrev pub invariant-loop : goal.invariant-loop
invariant-loop l = (l.counter ≤ 8) × U64 l.sum × U64 l.digits × U64 l.x × ((i : ℕ) → i < 8 → element l.sum i ⊕ times (8 - l.counter) (element l.digits i) (element l.x i) ≡ element l.k i • element l.a i)
