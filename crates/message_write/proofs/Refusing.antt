-- How a message's writer judges its length. Assumes nothing.
use mathlib.Core.Path.{◌≡◌, refl, ap}
use Prim.Native.Nat.{ℕ, ◌+◌, ◌≤◌, ◌<◌}
use mathlib.Core.Bool.{Bool, true, false, ◌||◌}
use mathlib.Core.List.{List, [], ◌∷◌, ◌++◌}
use native.Mathlib.Omega.{arith}
use lib.ListN.{length, length-append}
use lib.Dec.{ltb}
use borrow.Author.Tests.{lt-ltb, le-ltb, ltb-true, ltb-false}
use Rattle.wire.specs.Numbers.{le}
use Rattle.wire.specs.Writing.{Stores, Writes, no_room}
use Rattle.std.specs.Prelude.{Result}
use Rattle.wire.specs.declared.refusals.Refusal.{Refusal}
use Rattle.wire.specs.Refusals.{refusing}
use Rattle.wire.proofs.Writers.{writes_bad, writes_good}
use Rattle.control.specs.declared.Command.{Command}
use Rattle.control_write.specs.Image.{payload_image, control_image, command_bad, bad_within}
use Rattle.message.specs.declared.Message.TheVariants.{Control}
use Rattle.message_write.specs.Image.{message_bad}

-- a data type, fields and a slice
module _ (n : ℕ) (fields rest room : List ℕ) where
  pub typed_over : 505 < length fields + length rest → Writes (ltb 507 (length (le 2 n ++ (fields ++ rest)))) (le 2 n ++ (fields ++ rest)) room (refusing 17) room
  typed_over h = writes_bad (lt-ltb 507 (length (le 2 n ++ (fields ++ rest))) (omega (arith, length-append fields rest)))

  pub typed_made : {answer : Result ℕ Refusal} {after : List ℕ} → length fields + length rest ≤ 505
      → Stores (no_room 0 (le 2 n ++ (fields ++ rest)) room ∷ []) 0 (le 2 n ++ (fields ++ rest)) room answer after
      → Writes (ltb 507 (length (le 2 n ++ (fields ++ rest)))) (le 2 n ++ (fields ++ rest)) room answer after
  typed_made h w = writes_good (le-ltb 507 (length (le 2 n ++ (fields ++ rest))) (omega (arith, length-append fields rest))) w

-- a packet's 5 bytes and the type's 2 before a payload
seven : (b : Bool) (q : List ℕ) (n : ℕ) → n ≡ 7 + length q → ltb 500 (length q) ≡ b → ltb 507 n ≡ b
seven true q n e h = lt-ltb 507 n (omega (arith, ltb-true 500 (length q) h))
seven false q n e h = le-ltb 507 n (omega (arith, ltb-false 500 (length q) h))

pub control_within : (c : Command) (s : List ℕ) → message_bad (Control c) s ≡ bad_within 500 c s
control_within c s =
    ap (λ (b : Bool). command_bad c s || b) (seven (ltb 500 (length (payload_image c s))) (payload_image c s) (length (le 2 10 ++ control_image c s)) (omega arith) refl)
