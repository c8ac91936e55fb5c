-- What a writer of an image that judges its fields answers, and what stands in the room when it wrote. Assumes nothing.
use mathlib.Core.Path.{◌≡◌, refl, sym, ap, subst, ◌∙◌}
use mathlib.Core.Bool.{Bool, true, false}
use mathlib.Core.List.{List, [], ◌∷◌, ◌++◌}
use Prim.Native.Nat.{ℕ, zero, suc, ◌+◌}
use native.Mathlib.Omega.{arith}
use lib.ListN.{length, take, drop}
use lib.Seq.{take_at}
use Rattle.wire.specs.Rules.{Rule, ◌when◌, first_broken, verdict}
use Rattle.wire.specs.Writing.{Stores, Writes, no_room}
use Rattle.wire.specs.declared.refusals.Refusal.{Refusal}
use Rattle.std.specs.Prelude.{Result, Ok}
use Rattle.wire.specs.Refusals.{refusing}
use Rattle.wire.proofs.Rules.{judge_pass, first_none}
use Rattle.wire.proofs.Writing.{stores_refused, stores_past}

module _ {bad : Bool} {image room : List ℕ} where
  -- its reader would refuse it
  pub writes_bad : bad ≡ true → Writes bad image room (refusing 17) room
  writes_bad e = stores_refused 0 image room ((17 when bad) ∷ no_room 0 image room ∷ []) 16 refl (rw e)

  -- it would not, and only the room is left to judge
  pub writes_good : {answer : Result ℕ Refusal} {after : List ℕ} → bad ≡ false → Stores (no_room 0 image room ∷ []) 0 image room answer after → Writes bad image room answer after
  writes_good e w = stores_past 0 image room 17 bad e w

  -- by another test with the same outcome
  pub writes_as : {worse : Bool} {answer : Result ℕ Refusal} {after : List ℕ} → bad ≡ worse → Writes worse image room answer after → Writes bad image room answer after
  writes_as {answer} {after} e w = subst (λ (b : Bool). Writes b image room answer after) (sym e) w

wrote_only : (k l n : ℕ) → verdict refusing k (Ok l) ≡ Ok n → (k ≡ 0) × (l ≡ n)
wrote_only zero l n e = (refl, cc)
wrote_only (suc k) l n e = absurd (let z : ◌≡◌ {A = ℕ} 0 1 = cc in omega arith)

-- a writer that says it wrote has broken no rule; the bytes stand at the front
pub wrote_held : {rules : List Rule} {bytes room : List ℕ} {answer : Result ℕ Refusal} {after : List ℕ} (n : ℕ) → Stores rules 0 bytes room answer after → answer ≡ Ok n
    → (first_broken rules ≡ 0) × (take n after ≡ bytes)
wrote_held {rules} {bytes} {room} n w e =
    let d = wrote_only (first_broken rules) (length bytes) n (sym w.answers ∙ e) in
    (d.0, ap (take n) (w.leaves ∙ judge_pass (λ m. room) rules (bytes ++ drop (0 + length bytes) room) d.0) ∙ take_at bytes (drop (0 + length bytes) room) n d.1)

-- what it wrote is the image
pub wrote_image : {bad : Bool} {image room : List ℕ} {answer : Result ℕ Refusal} {after : List ℕ} (n : ℕ) → Writes bad image room answer after → answer ≡ Ok n
    → (bad ≡ false) × (take n after ≡ image)
wrote_image {bad} {image} {room} n w e =
    let d = wrote_held n w e in
    ((first_none 16 bad (no_room 0 image room ∷ []) d.0).0, d.1)

-- what holds of the image, where it is not bad, holds of what stands at the front of the room when the writer answers that it wrote
pub wrote_back : (Back : List ℕ → Type 0) {bad : Bool} {image room : List ℕ} {answer : Result ℕ Refusal} {after : List ℕ} → (bad ≡ false → Back image)
    → (n : ℕ) → Writes bad image room answer after → answer ≡ Ok n → Back (take n after)
wrote_back Back back n w e = let d = wrote_image n w e in subst Back (sym d.1) (back d.0)

-- a writer whose rules all hold has written, at the front
pub wrote : (rules : List Rule) (bytes room after : List ℕ) (answer : Result ℕ Refusal) → first_broken rules ≡ 0 → Stores rules 0 bytes room answer after
    → (answer ≡ Ok (length bytes)) × (take (length bytes) after ≡ bytes)
wrote rules bytes room after answer e w = (
  w.answers ∙ judge_pass refusing rules (Ok (length bytes)) e,
  ap (take (length bytes)) (w.leaves ∙ judge_pass (λ n. room) rules (bytes ++ drop (0 + length bytes) room) e) ∙ take_at bytes (drop (0 + length bytes) room) (length bytes) refl,
)
