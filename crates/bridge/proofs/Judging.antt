-- Two lists of rules, judged one after the other, and the work buffer that they leave: the same on both routes. Assumes nothing.
use mathlib.Core.Path.{◌≡◌, refl, sym, ap, ◌∙◌}
use mathlib.Core.Bool.{Bool, true, false, not}
use mathlib.Core.List.{List, [], ◌∷◌, ◌++◌}
use Prim.Native.Nat.{ℕ, zero, suc, ◌+◌, ◌*◌, ◌≤◌, min}
use native.Mathlib.Omega.{arith}
use native.Mathlib.Nat.{min-eq_left}
use lib.ListN.{length, take, drop, replicate, length-append}
use lib.Seq.{take_at, drop_at}
use lib.Dec.{eqb, ltb}
use borrow.Author.Tests.{le-ltb, eqb-true, not-false, ltb-false}
use Rattle.wire.specs.Rules.{Rule, ◌when◌, or_else, first_broken, verdict, judge}
use Rattle.wire.proofs.Rules.{first_append, first_right, first_none, judge_pass}
use Rattle.wire.proofs.Choice.{or_fails}
use Rattle.wire.proofs.Listed.{judged_ok, judged_err}
use Rattle.wire.specs.Refusals.{refusing, checked_by}
use Rattle.wire.specs.Parts.{part, part_of}
use Rattle.wire.specs.Writing.{Stores, no_room}
use Rattle.wire.proofs.Lists.{part_in}
use Rattle.std.specs.Prelude.{Result, Ok, Err}
use Rattle.wire.specs.declared.refusals.Refusal.{Refusal}
use Rattle.envelope.specs.Blocks.{outside, wrong_length, room_rule, blocks_in, cleared}
use Rattle.bridge.specs.Opener.{block_rules}
use Rattle.bridge.specs.Opening.{blocks_after}

-- one rule alone
pub one_broken : (n : ℕ) (b : Bool) {r : ℕ} → r ≡ first_broken ((suc n when b) ∷ []) → (r ≡ 0 → ⊥) → b ≡ true
one_broken n true e h = refl
one_broken n false e h = absurd (h e)

pub one_holds : (n : ℕ) (b : Bool) {r : ℕ} → r ≡ first_broken ((suc n when b) ∷ []) → r ≡ 0 → b ≡ false
one_holds n true e h = absurd (omega arith)
one_holds n false e h = refl

-- a list and another behind it, by their numbers
pub first_stop : (xs ys : List Rule) {n : ℕ} → n ≡ first_broken xs → (n ≡ 0 → ⊥) → n ≡ first_broken (xs ++ ys)
first_stop xs ys {n} e h = e ∙ sym (first_append xs ys ∙ kept (first_broken xs) (λ z. h (e ∙ z)))
  where
    kept : (k : ℕ) → (k ≡ 0 → ⊥) → or_else k (first_broken ys) ≡ k
    kept zero z = absurd (z refl)
    kept (suc k) z = refl

pub first_pass : (xs ys : List Rule) {n m : ℕ} → n ≡ first_broken xs → n ≡ 0 → m ≡ first_broken ys → m ≡ first_broken (xs ++ ys)
first_pass xs ys e z q = q ∙ sym (first_right xs ys (sym e ∙ z))

-- a rule is broken
stop {ℓ} : {A : Type ℓ} (refuse : ℕ → A) (n : ℕ) (good : A) → (n ≡ 0 → ⊥) → verdict refuse n good ≡ refuse n
stop refuse zero good h = absurd (h refl)
stop refuse (suc n) good h = refl

pub judge_stop {ℓ} : {A : Type ℓ} (refuse : ℕ → A) (xs : List Rule) (good : A) (n : ℕ) → n ≡ first_broken xs → (n ≡ 0 → ⊥) → judge refuse xs good ≡ refuse n
judge_stop refuse xs good n e h = ap (λ (k : ℕ). verdict refuse k good) (sym e) ∙ stop refuse n good h

-- a judge that hands something out, as a judge alone
pub judged_refused : {A : Type 0} (rules : List Rule) (good : A) {r : Refusal} → Err r ≡ judge refusing rules (Ok good) → Err r ≡ checked_by rules
judged_refused rules good e =
    let j = judged_err rules good e in
    ap Err (sym j.2) ∙ sym (judge_stop refusing rules (Ok tt) (suc j.0) j.1 (λ z. omega arith))

pub judged_passed : {A : Type 0} (rules : List Rule) (good : A) {a : A} → Ok a ≡ judge refusing rules (Ok good) → Ok tt ≡ checked_by rules
judged_passed rules good e = sym (judge_pass refusing rules (Ok tt) (judged_ok rules e).0)

-- what 7 and 25 leave where neither is given
pub blocks_whole : (p : List ℕ) (room : ℕ) (more : List Rule) → first_broken (block_rules p room ++ more) ≡ 0
    → (length p ≡ 4 + 16 * blocks_in p) × (16 * blocks_in p ≤ room)
unfolding wrong_length
blocks_whole p room more e =
    let n : ℕ = blocks_in p in
    let a = first_none 6 (wrong_length p) (room_rule p room ∷ more) e in
    let r = first_none 24 (ltb room (16 * n)) more a.1 in
    let w = or_fails (outside 1 31 n) (not (eqb (length p) (4 + 16 * n))) a.0 in
    (eqb-true _ _ (not-false _ w.1), ltb-false _ _ r.0)

-- ---- the work buffer
module _ (n : ℕ) (text work : List ℕ) (long : length text ≡ 16 * n) where
  -- the blocks as a store left them
  pub blocks_stored : {answer : Result ℕ Refusal} {after : List ℕ} → Stores (no_room 0 text work ∷ []) 0 text work answer after → 16 * n ≤ length work
      → after ≡ text ++ drop (16 * n) work
  blocks_stored w h =
      let fits : 0 + length text ≤ length work = omega arith in
      let e : 0 + length text ≡ 16 * n = omega arith in
      w.leaves ∙ rw (le-ltb _ _ fits) (ap (λ (k : ℕ). text ++ drop k work) e)

  -- the blocks alone
  blocks_front : {after : List ℕ} {k : ℕ} → after ≡ text ++ drop (16 * n) work → k ≡ 16 * n → take k after ≡ text
  blocks_front {k} e h = ap (take k) e ∙ take_at text (drop (16 * n) work) k (long ∙ sym h)

  -- the blocks as a part of the buffer
  pub blocks_part : {after : List ℕ} {k : ℕ} → after ≡ text ++ drop (16 * n) work → k ≡ 16 * n → part_of after (part 0 k) ≡ text
  blocks_part {after} {k} e h =
      let l : length after ≡ length text + length (drop (16 * n) work) = ap length e ∙ length-append text (drop (16 * n) work) in
      part_in after 0 k (omega arith) ∙ blocks_front e h

  -- accepted: they stay
  blocks_kept : (rules : List Rule) → first_broken rules ≡ 0 → {after : List ℕ} → after ≡ text ++ drop (16 * n) work → after ≡ blocks_after n rules text work
  blocks_kept rules h e = e ∙ ap (λ (l : List ℕ). l ++ drop (16 * n) work) (sym (judge_pass (λ k. replicate (16 * n) 0) rules text h))

  -- refused: they are zero
  blocks_cleared : (rules : List Rule) → (first_broken rules ≡ 0 → ⊥) → {before after : List ℕ} {k : ℕ} → before ≡ text ++ drop (16 * n) work → k ≡ 16 * n
      → after ≡ cleared k before → after ≡ blocks_after n rules text work
  blocks_cleared rules h {before} {after} {k} e q c =
      let l : length before ≡ length text + length (drop (16 * n) work) = ap length e ∙ length-append text (drop (16 * n) work) in
      let m : min k (length before) ≡ 16 * n = min-eq_left (let z : k ≤ length before = omega arith in z) ∙ q in
      let d : drop k before ≡ drop (16 * n) work = ap (drop k) e ∙ drop_at text (drop (16 * n) work) k (long ∙ sym q) in
      c ∙ ap (λ (i : ℕ). replicate {A = ℕ} i 0 ++ drop k before) m
      ∙ ap (λ (x : List ℕ). replicate {A = ℕ} (16 * n) 0 ++ x) d
      ∙ ap (λ (x : List ℕ). x ++ drop (16 * n) work) (sym (judge_stop (λ i. replicate (16 * n) 0) rules text (first_broken rules) refl h))

-- ---- rules before and behind the deciphering, whatever the answers are
module _ {A : Type 0} (refuse : ℕ → A) (good : A) (entry rules : List Rule) (n : ℕ) (text work : List ℕ) where
  -- refused before: the buffer is not touched
  pub stopped_before : {k : ℕ} → k ≡ first_broken entry → (k ≡ 0 → ⊥)
      → (refuse k ≡ judge refuse entry (judge refuse rules good)) × (work ≡ judge (λ i. work) entry (blocks_after n rules text work))
  stopped_before {k} e h = (
    sym (judge_stop refuse entry (judge refuse rules good) k e h),
    sym (judge_stop (λ i. work) entry (blocks_after n rules text work) k e h),
  )

  module _ (long : length text ≡ 16 * n) (entered : first_broken entry ≡ 0) where
    through : {a : A} {after : List ℕ} → a ≡ judge refuse rules good → after ≡ blocks_after n rules text work
        → (a ≡ judge refuse entry (judge refuse rules good)) × (after ≡ judge (λ i. work) entry (blocks_after n rules text work))
    through p q = (
      p ∙ sym (judge_pass refuse entry (judge refuse rules good) entered),
      q ∙ sym (judge_pass (λ i. work) entry (blocks_after n rules text work) entered),
    )

    -- accepted: the blocks stay deciphered
    pub accepted_behind : {a : A} {after : List ℕ} → a ≡ judge refuse rules good → first_broken rules ≡ 0 → after ≡ text ++ drop (16 * n) work
        → (a ≡ judge refuse entry (judge refuse rules good)) × (after ≡ judge (λ i. work) entry (blocks_after n rules text work))
    accepted_behind p h q = through p (blocks_kept n text work long rules h q)

    -- refused: they are zero
    pub refused_behind : {a : A} {before after : List ℕ} {k : ℕ} → a ≡ judge refuse rules good → (first_broken rules ≡ 0 → ⊥)
        → before ≡ text ++ drop (16 * n) work → k ≡ 16 * n → after ≡ cleared k before
        → (a ≡ judge refuse entry (judge refuse rules good)) × (after ≡ judge (λ i. work) entry (blocks_after n rules text work))
    refused_behind p h q z c = through p (blocks_cleared n text work long rules h q z c)
