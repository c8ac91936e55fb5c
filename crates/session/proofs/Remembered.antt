-- What a memory holds: the test for a packet nonce, and what one more leaves. Assumes nothing.
use mathlib.Core.Path.{◌≡◌, refl, sym, ap, ◌∙◌}
use mathlib.Core.Bool.{Bool, true, false, ◌||◌}
use mathlib.Core.List.{List, [], ◌∷◌}
use Prim.Native.Nat.{ℕ, zero, suc, ◌+◌, ◌≤◌, ◌<◌, min}
use native.Mathlib.Numerals.{unary_clauses}
use native.Mathlib.Omega.{arith}
use lib.ListN.{length, get_or, take}
use lib.Seq.{take-suc}
use lib.Dec.{eqb}
use borrow.Author.Tests.{leb-true, le-leb, eq-eqb, eqb-true, ne_eqb}
use Rattle.std.specs.List.{list_any}
use Rattle.wire.specs.Choice.{pick}
use Rattle.wire.specs.Rules.{among}
use Rattle.wire.proofs.Choice.{true_false, or_right}
use Rattle.session.specs.Memory.{empty_memory, count_fits, limited, remembered, in_front, remembering}
use Rattle.session.specs.declared.NonceMemory.{NonceMemory}

-- at most eight
pub limit_count : (m : NonceMemory) → (limited m).count ≤ 8
unfolding limited
limit_count m = go (count_fits m) refl
  where
    go : (b : Bool) → count_fits m ≡ b → (pick b m empty_memory).count ≤ 8
    go true e = leb-true _ _ e
    go false e = omega arith

-- ---- the test for a packet nonce
eqb_comm : (a b : ℕ) → eqb a b ≡ eqb b a
eqb_comm a b = go (eqb a b) refl
  where
    go : (t : Bool) → eqb a b ≡ t → t ≡ eqb b a
    go true e = sym (eq-eqb b a (sym (eqb-true a b e)))
    go false e = sym (ne_eqb b a (λ q. true_false (sym (eq-eqb a b (sym q)) ∙ e)))

any_among : (n : ℕ) (ns : List ℕ) → list_any (λ (m : ℕ). eqb m n) ns ≡ among n ns
any_among n [] = refl
any_among n (m ∷ ns) = rw (eqb_comm m n, any_among n ns)

pub holds_any : (self m : NonceMemory) (n : ℕ) {b : Bool} → m ≡ limited self → b ≡ list_any (λ (k : ℕ). eqb k n) (take m.count m.nonces) → b ≡ among n (remembered self)
unfolding remembered
holds_any self m n e h = h ∙ any_among n (take m.count m.nonces) ∙ ap (λ (x : NonceMemory). among n (take x.count x.nonces)) e

-- ---- one more
-- the places after it
pub eight_places : (n : ℕ) (ns : List ℕ) → length ns ≡ 8
    → n ∷ get_or ns 0 0 ∷ get_or ns 1 0 ∷ get_or ns 2 0 ∷ get_or ns 3 0 ∷ get_or ns 4 0 ∷ get_or ns 5 0 ∷ get_or ns 6 0 ∷ [] ≡ in_front n ns
eight_places n ns e =
    sym (rw (
      take-suc ns 6 0 (omega arith),
      take-suc ns 5 0 (omega arith),
      take-suc ns 4 0 (omega arith),
      take-suc ns 3 0 (omega arith),
      take-suc ns 2 0 (omega arith),
      take-suc ns 1 0 (omega arith),
      take-suc ns 0 0 (omega arith),
    ))

-- at most eight, whatever it was
pub one_more_fits : (m : NonceMemory) (n : ℕ) → count_fits (remembering m n) ≡ true
unfolding remembering
one_more_fits m n = le-leb (min 8 ((limited m).count + 1)) 8 (omega arith)

take_take : (a b : ℕ) (l : List ℕ) → take a (take b l) ≡ take (min a b) l
take_take zero b l = simp unary_clauses refl
take_take (suc a) zero l = simp unary_clauses refl
take_take (suc a) (suc b) [] = simp unary_clauses refl
take_take (suc a) (suc b) (x ∷ l) = simp unary_clauses (ap (λ (t : List ℕ). x ∷ t) (take_take a b l))

-- one within the limits is taken as it is
limit_same : (m : NonceMemory) → count_fits m ≡ true → limited m ≡ m
unfolding limited
limit_same m e = rw e

-- it remembers the nonce and, behind it, those that it remembered, eight in all
pub remembers_one : (m : NonceMemory) (n : ℕ) → remembered (remembering m n) ≡ in_front n (remembered m)
unfolding remembered remembering
remembers_one m n =
    let c : ℕ = (limited m).count in
    let ns : List ℕ = (limited m).nonces in
    let e : min (min 8 (c + 1)) 8 ≡ min 8 (suc c) = omega arith in
    ap (λ (x : NonceMemory). take x.count x.nonces) (limit_same (remembering m n) (one_more_fits m n))
    ∙ take_take (min 8 (c + 1)) 8 (n ∷ ns)
    ∙ ap (λ (k : ℕ). take k (n ∷ ns)) e
    ∙ sym (take_take 8 (suc c) (n ∷ ns))

-- ---- a nonce among the first few of those remembered
-- it stands in front when it was put there
pub first_of : (n : ℕ) (ns : List ℕ) → among n (take 1 (in_front n ns)) ≡ true
first_of n ns = rw (eq-eqb n n refl) refl

-- each other moves it by one place
pub one_behind : (n x j : ℕ) (ns : List ℕ) → suc j < 8 → among n (take (suc j) ns) ≡ true → among n (take (suc (suc j)) (in_front x ns)) ≡ true
one_behind n x j ns h e =
    let q : min (suc (suc j)) 8 ≡ suc (suc j) = omega arith in
    ap (among n) (take_take (suc (suc j)) 8 (x ∷ ns) ∙ ap (λ (k : ℕ). take k (x ∷ ns)) q) ∙ or_right (eqb n x) (among n (take (suc j) ns)) e

or_either : (a b c : Bool) → (b ≡ true → c ≡ true) → (a || b) ≡ true → (a || c) ≡ true
or_either true b c h e = refl
or_either false b c h e = h e

pub among_first : (n k : ℕ) (ns : List ℕ) → among n (take k ns) ≡ true → among n ns ≡ true
among_first n zero ns e = true_false (sym e)
among_first n (suc k) [] e = true_false (sym e)
among_first n (suc k) (x ∷ ns) e = or_either (eqb n x) (among n (take k ns)) (among n ns) (among_first n k ns) e
