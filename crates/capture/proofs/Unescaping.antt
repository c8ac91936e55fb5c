-- Laws of looking ahead. Assumes nothing.
use mathlib.Core.Path.{◌≡◌, refl, sym, ap, ◌∙◌, subst}
use mathlib.Core.List.{List, [], ◌∷◌, ◌++◌}
use mathlib.Core.Bool.{Bool, true, false, ◌||◌}
use Prim.Native.Nat.{ℕ, zero, suc, ◌+◌, ◌≤◌, ◌<◌}
use native.Mathlib.Omega.{arith}
use lib.ListN.{length, drop, get_or, drop_of_length-le}
use lib.Seq.{drop-cons}
use lib.Bits.{bit_xor}
use lib.Dec.{eqb}
use borrow.Author.Tests.{eq-eqb, ne_eqb, eqb-true, eqb-false}
use Rattle.wire.specs.Choice.{pick}
use Rattle.wire.proofs.Choice.{true_false}
use Rattle.capture.specs.Ahead.{Ahead, whole, start, bad_escape, end, before, behind_escape, ahead}
use Rattle.line.specs.Escapes.{StandsAt, NothingAt}
use Rattle.line.specs.Escapes.StandsAt.{plain, escaped}
use Rattle.line.specs.Escapes.NothingAt.{ended, cut, bad, start as start_there}
use Rattle.capture.specs.Looking.{Stuck}

-- ---- bytes looked for in two parts
-- behind unescaped bytes vs, w bytes on the line
abbrev pub behind : ℕ → List ℕ → Ahead → Ahead
behind w vs (whole n us rest) = whole (w + n) (vs ++ us) rest
behind w vs (start n) = start (w + n)
behind w vs (bad_escape n) = bad_escape (w + n)
behind w vs end = end

-- n more behind those that were found, where all were
abbrev pub more : ℕ → Ahead → Ahead
more n (whole w vs rest) = behind w vs (ahead n rest)
more n (start w) = start w
more n (bad_escape w) = bad_escape w
more n end = end

behind_none : (a : Ahead) → behind 0 [] a ≡ a
behind_none (whole n us rest) = ap (λ (k : ℕ). whole k us rest) (let e : 0 + n ≡ n = omega arith in e)
behind_none (start n) = ap start (let e : 0 + n ≡ n = omega arith in e)
behind_none (bad_escape n) = ap bad_escape (let e : 0 + n ≡ n = omega arith in e)
behind_none end = refl

before_behind : (k v w : ℕ) (vs : List ℕ) (a : Ahead) → before k v (behind w vs a) ≡ behind (k + w) (v ∷ vs) a
unfolding before
before_behind k v w vs (whole n us rest) = ap (λ (m : ℕ). whole m (v ∷ (vs ++ us)) rest) (let e : k + (w + n) ≡ k + w + n = omega arith in e)
before_behind k v w vs (start n) = ap start (let e : k + (w + n) ≡ k + w + n = omega arith in e)
before_behind k v w vs (bad_escape n) = ap bad_escape (let e : k + (w + n) ≡ k + w + n = omega arith in e)
before_behind k v w vs end = refl

more_before : (n k v : ℕ) (a : Ahead) → before k v (more n a) ≡ more n (before k v a)
unfolding before
more_before n k v (whole w vs rest) = before_behind k v w vs (ahead n rest)
more_before n k v (start w) = refl
more_before n k v (bad_escape w) = refl
more_before n k v end = refl

record IsMore (n : ℕ) (a b : Ahead) : Type 0 where
  same : a ≡ more n b

pick_more : {n : ℕ} (t : Bool) {a b c d : Ahead} → IsMore n a c → IsMore n b d → IsMore n (pick t a b) (pick t c d)
pick_more true p q = p
pick_more false p q = q

before_more : {n : ℕ} (k v : ℕ) {a b : Ahead} → IsMore n a b → IsMore n (before k v a) (before k v b)
before_more {n} k v {b = b} p = record { same = ap (before k v) p.same ∙ more_before n k v b }

escape_more : {n : ℕ} (f g : List ℕ → Ahead) → ((bs : List ℕ) → IsMore n (f bs) (g bs)) → (bs : List ℕ) → IsMore n (behind_escape f bs) (behind_escape g bs)
unfolding behind_escape
escape_more f g h [] = record { same = refl }
escape_more f g h (b ∷ bs) =
    pick_more (eqb b 0x7E) (record { same = refl })
    (pick_more (eqb b 0x3E || eqb b 0x1C) (before_more 2 (bit_xor b 0x40) (h bs)) (record { same = refl }))

-- m bytes, and then n more
is_more : (m n : ℕ) (bs : List ℕ) → IsMore n (ahead (m + n) bs) (ahead m bs)
unfolding ahead
is_more zero n bs = record { same = (let e : 0 + n ≡ n = omega arith in ap (λ (k : ℕ). ahead k bs) e) ∙ sym (behind_none (ahead n bs)) }
is_more (suc m) n bs = subst (λ (k : ℕ). IsMore n (ahead k bs) (ahead (suc m) bs)) (let e : suc (m + n) ≡ suc m + n = omega arith in e) (go bs (is_more m n))
  where
    go : (bs : List ℕ) → ((bs : List ℕ) → IsMore n (ahead (m + n) bs) (ahead m bs)) → IsMore n (ahead (suc (m + n)) bs) (ahead (suc m) bs)
    go [] h = record { same = refl }
    go (b ∷ bs) h =
        pick_more (eqb b 0x7E) (record { same = refl })
        (pick_more (eqb b 0x5C) (escape_more (ahead (m + n)) (ahead m) h bs) (before_more 1 b (h bs)))

pub ahead_more : (m n : ℕ) (bs : List ℕ) → ahead (m + n) bs ≡ more n (ahead m bs)
ahead_more m n bs = (is_more m n bs).same

-- where no unescaped byte is found, no more are found either
more_stuck : (n : ℕ) (a : Ahead) → Stuck a → more n a ≡ a
more_stuck n (whole w vs rest) h = absurd h
more_stuck n (start w) h = refl
more_stuck n (bad_escape w) h = refl
more_stuck n end h = refl

pub ahead_stuck : (n : ℕ) (bs : List ℕ) → Stuck (ahead 1 bs) → ahead (1 + n) bs ≡ ahead 1 bs
ahead_stuck n bs h = ahead_more 1 n bs ∙ more_stuck n (ahead 1 bs) h

-- ---- the first unescaped byte at an offset of a capture
module _ (s : List ℕ) (at : ℕ) where
  abbrev x : ℕ
  x = get_or s at 0

  abbrev y : ℕ
  y = get_or s (at + 1) 0

  pub first_end : length s ≤ at → ahead 1 (drop at s) ≡ end
  unfolding ahead
  first_end h = ap (ahead 1) (drop_of_length-le s h)

  module _ (below : at < length s) where
    here : drop at s ≡ x ∷ drop (at + 1) s
    here = drop-cons s at 0 below ∙ ap (λ (k : ℕ). x ∷ drop k s) (let e : suc at ≡ at + 1 = omega arith in e)

    pub first_start : x ≡ 0x7E → ahead 1 (drop at s) ≡ start 1
    unfolding ahead
    first_start e = ap (ahead 1) here ∙ simp (eq-eqb _ _ e)

    pub first_plain : (x ≡ 0x7E → ⊥) → (x ≡ 0x5C → ⊥) → ahead 1 (drop at s) ≡ whole 1 (x ∷ []) (drop (at + 1) s)
    unfolding ahead before
    first_plain p q = ap (ahead 1) here ∙ simp (ne_eqb _ _ p, ne_eqb _ _ q)

    first_escape : x ≡ 0x5C → ahead 1 (drop at s) ≡ behind_escape (ahead 0) (drop (at + 1) s)
    unfolding ahead
    first_escape e =
        let n : x ≡ 0x7E → ⊥ = omega arith in
        ap (ahead 1) here ∙ simp (ne_eqb _ _ n, eq-eqb _ _ e)

    pub escape_end : x ≡ 0x5C → length s ≤ at + 1 → ahead 1 (drop at s) ≡ end
    unfolding behind_escape
    escape_end e h = first_escape e ∙ ap (behind_escape (ahead 0)) (drop_of_length-le s h)

  module _ (below : at + 1 < length s) (e : x ≡ 0x5C) where
    behind_it : ahead 1 (drop at s) ≡ behind_escape (ahead 0) (y ∷ drop (at + 2) s)
    behind_it =
        first_escape (omega arith) e
        ∙ ap (behind_escape (ahead 0)) (drop-cons s (at + 1) 0 below ∙ ap (λ (k : ℕ). y ∷ drop k s) (let q : suc (at + 1) ≡ at + 2 = omega arith in q))

    pub escape_start : y ≡ 0x7E → ahead 1 (drop at s) ≡ start 2
    unfolding behind_escape
    escape_start f = behind_it ∙ simp (eq-eqb _ _ f)

    pub escape_byte_lem : (eqb y 0x3E || eqb y 0x1C) ≡ true → ahead 1 (drop at s) ≡ whole 2 (bit_xor y 0x40 ∷ []) (drop (at + 2) s)
    unfolding behind_escape ahead before
    escape_byte_lem f =
        let n : y ≡ 0x7E → ⊥ = λ q. true_false (sym f ∙ ap (λ (k : ℕ). eqb k 0x3E || eqb k 0x1C) q) in
        behind_it ∙ simp (ne_eqb _ _ n, f)

    pub escape_bad : (eqb y 0x3E || eqb y 0x1C) ≡ false → (y ≡ 0x7E → ⊥) → ahead 1 (drop at s) ≡ bad_escape 2
    unfolding behind_escape
    escape_bad f n = behind_it ∙ simp (ne_eqb _ _ n, f)

    pub escape_stuck : (eqb y 0x3E || eqb y 0x1C) ≡ false → Stuck (ahead 1 (drop at s))
    escape_stuck f = go (eqb y 0x7E) refl
      where
        go : (t : Bool) → eqb y 0x7E ≡ t → Stuck (ahead 1 (drop at s))
        go true q = subst Stuck (sym (escape_start (eqb-true y 0x7E q))) tt
        go false q = subst Stuck (sym (escape_bad f (eqb-false y 0x7E q))) tt

  -- where none is found, and the byte is no 7E
  pub stuck_escape : at < length s → (x ≡ 0x7E → ⊥) → Stuck (ahead 1 (drop at s)) → x ≡ 0x5C
  stuck_escape below n h = go (eqb x 0x5C) refl
    where
      go : (t : Bool) → eqb x 0x5C ≡ t → x ≡ 0x5C
      go true e = eqb-true _ _ e
      go false e = absurd (subst Stuck (first_plain below n (eqb-false _ _ e)) h)

  pub stuck_bad : at + 1 < length s → x ≡ 0x5C → (y ≡ 0x7E → ⊥) → Stuck (ahead 1 (drop at s)) → ahead 1 (drop at s) ≡ bad_escape 2
  stuck_bad below e n h = go (eqb y 0x3E || eqb y 0x1C) refl
    where
      go : (t : Bool) → (eqb y 0x3E || eqb y 0x1C) ≡ t → ahead 1 (drop at s) ≡ bad_escape 2
      go true f = absurd (subst Stuck (escape_byte_lem below e f) h)
      go false f = escape_bad below e f n

-- one that stands there, and none
pub stands_ahead : (s : List ℕ) (at byte width : ℕ) → StandsAt s at byte width → ahead 1 (drop at s) ≡ whole width (byte ∷ []) (drop (at + width) s)
stands_ahead s at byte width (plain below w b p q) = rw (w, b) (first_plain s at below p q)
stands_ahead s at byte width (escaped below w b e t) = rw (w, b) (escape_byte_lem s at below e t)

pub nothing_stuck : (s : List ℕ) (at : ℕ) → NothingAt s at → Stuck (ahead 1 (drop at s))
nothing_stuck s at (ended h) = subst Stuck (sym (first_end s at h)) tt
nothing_stuck s at (start_there below e) = subst Stuck (sym (first_start s at below e)) tt
nothing_stuck s at (cut below e h) = subst Stuck (sym (escape_end s at below e h)) tt
nothing_stuck s at (bad below e t) = escape_stuck s at below e t
