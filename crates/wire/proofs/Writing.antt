-- How a writer ends: a law for each way. Assumes nothing.
use mathlib.Core.Path.{◌≡◌, refl, sym, ◌∙◌, subst}
use mathlib.Core.Bool.{Bool, false}
use mathlib.Core.List.{List, [], ◌∷◌, append_assoc}
use Prim.Native.Nat.{ℕ, suc, ◌+◌, ◌≤◌, ◌<◌}
use lib.ListN.{length, take, drop}
use lib.Seq.{sets, sets-eq}
use borrow.Author.Tests.{lt-ltb, le-ltb}
use Rattle.wire.specs.Rules.{Rule, ◌when◌, first_broken}
use Rattle.wire.specs.Writing.{Stores, no_room, placed}
use Rattle.wire.specs.declared.refusals.Refusal.{Refusal}
use Rattle.std.specs.Prelude.{Result, Ok}
use Rattle.wire.specs.Refusals.{number_of, refusal_of, refusing}

-- a run of stores is bytes from a place on
pub sets_placed : (at : ℕ) (bytes room : List ℕ) → at + length bytes ≤ length room → sets room at bytes ≡ placed at bytes room
sets_placed at bytes room h = sets-eq bytes room at h ∙ append_assoc (take at room) bytes (drop (at + length bytes) room)

module _ (at : ℕ) (bytes room : List ℕ) where
  -- a rule is broken
  pub stores_refused : (rules : List Rule) (n : ℕ) → number_of (refusal_of (suc n)) ≡ suc n → first_broken rules ≡ suc n
      → Stores rules at bytes room (refusing (suc n)) room
  stores_refused rules n listed e = record { number = rw (e, listed); answers = rw e; leaves = rw e }

  -- there is no room
  pub stores_short : length room < at + length bytes → Stores (no_room at bytes room ∷ []) at bytes room (refusing 25) room
  stores_short h = stores_refused (no_room at bytes room ∷ []) 24 refl (rw (lt-ltb _ _ h))

  -- there is, and a run of stores was made
  pub stores_made : {after : List ℕ} {n : ℕ} → at + length bytes ≤ length room → after ≡ sets room at bytes → n ≡ length bytes
      → Stores (no_room at bytes room ∷ []) at bytes room (Ok n) after
  stores_made h s l =
      record { number = rw (le-ltb _ _ h, l); answers = rw (le-ltb _ _ h, l); leaves = rw (le-ltb _ _ h, s) (sets_placed at bytes room h) }

  -- and so, where there is room, the room after it is what that run makes of it
  pub stores_sets : {answer : Result ℕ Refusal} {after : List ℕ} → at + length bytes ≤ length room → Stores (no_room at bytes room ∷ []) at bytes room answer after
      → after ≡ sets room at bytes
  stores_sets h w = rw (le-ltb _ _ h) at w.leaves ∙ sym (sets_placed at bytes room h)

  -- a rule before the others that holds
  pub stores_past : {rules : List Rule} {answer : Result ℕ Refusal} {after : List ℕ} (n : ℕ) (b : Bool) → b ≡ false → Stores rules at bytes room answer after
      → Stores ((n when b) ∷ rules) at bytes room answer after
  stores_past n b e w = record { number = rw e w.number; answers = rw e w.answers; leaves = rw e w.leaves }

-- the bytes by another name
pub stores_same : (at : ℕ) {bytes bytes' room : List ℕ} {answer : Result ℕ Refusal} {after : List ℕ} → bytes ≡ bytes'
    → Stores (no_room at bytes room ∷ []) at bytes room answer after → Stores (no_room at bytes' room ∷ []) at bytes' room answer after
stores_same at {room} {answer} {after} e w = subst (λ (l : List ℕ). Stores (no_room at l room ∷ []) at l room answer after) e w
