-- What lies between an offset and the last of the unescaped bytes found behind it. Assumes nothing.
use mathlib.Core.Path.{◌≡◌, refl, sym, ap, ap₂, ◌∙◌, subst}
use mathlib.Core.List.{List, [], ◌∷◌, ◌++◌}
use mathlib.Core.Bool.{◌||◌}
use Prim.Native.Nat.{ℕ, zero, suc, ◌+◌, ◌-◌, ◌*◌, ◌≤◌, ◌<◌}
use native.Mathlib.Omega.{arith}
use lib.ListN.{length, take, drop, get_or, set, length-drop, length-append}
use lib.Seq.{get_or-drop, take-suc, take-suc-set, take_at, length-take-le, sets, sets-eq}
use lib.Bits.{bit_xor}
use lib.Dec.{eqb}
use borrow.Author.Tests.{eqb-false}
use Rattle.wire.proofs.Choice.{pick_all}
use Rattle.line.specs.Line.{NoStart}
use Rattle.capture.specs.Ahead.{Ahead, whole, start, bad_escape, end, before, behind_escape, ahead}
use Rattle.capture.specs.Looking.{NoStartIn, NoneIn, Stuck, Holds, Takes, Continues}
use Rattle.capture.proofs.Unescaping.{behind, more, ahead_more, ahead_stuck, first_plain}

-- m unescaped bytes vs, w bytes on the line, at the front of bs
pub record Reached (m : ℕ) (bs : List ℕ) (w : ℕ) (vs rest : List ℕ) : Type 0 where
  pub rest_is : rest ≡ drop w bs
  pub within : w ≤ length bs
  pub clear : NoStart (take w bs)
  pub count : length vs ≡ m
  pub least : m ≤ w
  pub most : w ≤ 2 * m

-- none of m unescaped bytes is further away than twice as many bytes on the line, and so is no other end of the search
abbrev pub Reaches : ℕ → List ℕ → Ahead → Type 0
Reaches m bs (whole w vs rest) = Reached m bs w vs rest
Reaches m bs (start w) = (1 ≤ w) × (w ≤ 2 * m)
Reaches m bs (bad_escape w) = (1 ≤ w) × (w ≤ 2 * m)
Reaches m bs end = Unit {0}

-- one more in front of them: of one byte on the line, or of two
plain_reached : (m b v w : ℕ) (bs vs rest : List ℕ) → (b ≡ 0x7E → ⊥) → Reached m bs w vs rest → Reached (suc m) (b ∷ bs) (suc w) (v ∷ vs) rest
plain_reached m b v w bs vs rest n h =
    record {
      rest_is = h.rest_is;
      within = omega (arith, h.within);
      clear = (n, h.clear);
      count = ap suc h.count;
      least = omega (arith, h.least);
      most = omega (arith, h.most);
    }

escape_reached : (m b e v w : ℕ) (bs vs rest : List ℕ) → (b ≡ 0x7E → ⊥) → (e ≡ 0x7E → ⊥) → Reached m bs w vs rest
    → Reached (suc m) (b ∷ (e ∷ bs)) (suc (suc w)) (v ∷ vs) rest
escape_reached m b e v w bs vs rest n k h =
    let g = plain_reached m e v w bs vs rest k h in
    record {
      rest_is = g.rest_is;
      within = omega (arith, g.within);
      clear = (n, g.clear);
      count = g.count;
      least = omega (arith, g.least);
      most = omega (arith, h.most);
    }

before_reaches : (m k v : ℕ) (bs cs : List ℕ) → k ≤ 2 → ((w : ℕ) (vs rest : List ℕ) → Reached m bs w vs rest → Reached (suc m) cs (k + w) (v ∷ vs) rest)
    → (a : Ahead) → Reaches m bs a → Reaches (suc m) cs (before k v a)
unfolding before
before_reaches m k v bs cs l f (whole w vs rest) h = f w vs rest h
before_reaches m k v bs cs l f (start w) h = (omega arith, omega arith)
before_reaches m k v bs cs l f (bad_escape w) h = (omega arith, omega arith)
before_reaches m k v bs cs l f end h = tt

plain_reaches : (m b : ℕ) (bs : List ℕ) → (b ≡ 0x7E → ⊥) → Reaches m bs (ahead m bs) → Reaches (suc m) (b ∷ bs) (before 1 b (ahead m bs))
plain_reaches m b bs n =
    before_reaches m 1 b bs (b ∷ bs) (omega arith)
    (λ w vs rest h. subst (λ (k : ℕ). Reached (suc m) (b ∷ bs) k (b ∷ vs) rest) (let q : suc w ≡ 1 + w = omega arith in q) (plain_reached m b b w bs vs rest n h))
    (ahead m bs)

escape_reaches : (m b e v : ℕ) (bs : List ℕ) → (b ≡ 0x7E → ⊥) → (e ≡ 0x7E → ⊥) → Reaches m bs (ahead m bs) → Reaches (suc m) (b ∷ (e ∷ bs)) (before 2 v (ahead m bs))
escape_reaches m b e v bs n k =
    before_reaches m 2 v bs (b ∷ (e ∷ bs)) (omega arith)
    (λ w vs rest h.
    subst (λ (j : ℕ). Reached (suc m) (b ∷ (e ∷ bs)) j (v ∷ vs) rest) (let q : suc (suc w) ≡ 2 + w = omega arith in q)
    (escape_reached m b e v w bs vs rest n k h))
    (ahead m bs)

pub reaches : (m : ℕ) (bs : List ℕ) → Reaches m bs (ahead m bs)
unfolding ahead behind_escape
reaches zero bs = record { rest_is = refl; within = omega arith; clear = tt; count = refl; least = omega arith; most = omega arith }
reaches (suc m) [] = tt
reaches (suc m) (b ∷ bs) =
    pick_all (Reaches (suc m) (b ∷ bs)) (eqb b 0x7E) (λ e. (omega arith, omega arith))
    (λ n. pick_all (Reaches (suc m) (b ∷ bs)) (eqb b 0x5C) (λ e. escaped bs (reaches m) (eqb-false b 0x7E n)) (λ e. plain_reaches m b bs (eqb-false b 0x7E n) (reaches m bs)))
  where
    escaped : (bs : List ℕ) → ((bs : List ℕ) → Reaches m bs (ahead m bs)) → (b ≡ 0x7E → ⊥) → Reaches (suc m) (b ∷ bs) (behind_escape (ahead m) bs)
    escaped [] h n = tt
    escaped (e ∷ bs) h n =
        pick_all (Reaches (suc m) (b ∷ (e ∷ bs))) (eqb e 0x7E) (λ q. (omega arith, omega arith))
        (λ k. pick_all (Reaches (suc m) (b ∷ (e ∷ bs))) (eqb e 0x3E || eqb e 0x1C)
        (λ q. escape_reaches m b e (bit_xor e 0x40) bs n (eqb-false e 0x7E k) (h bs)) (λ q. (omega arith, omega arith)))

pub reached : {m : ℕ} {bs : List ℕ} {w : ℕ} {vs rest : List ℕ} → ahead m bs ≡ whole w vs rest → Reached m bs w vs rest
reached {m} {bs} e = subst (Reaches m bs) e (reaches m bs)

-- they lie within the capture
pub reach_within : (s : List ℕ) (at m : ℕ) {w : ℕ} {vs rest : List ℕ} → at ≤ length s → ahead m (drop at s) ≡ whole w vs rest → at + w ≤ length s
reach_within s at m h e = omega (arith, (reached e).within, length-drop at s)

-- bytes that stand for themselves
plain_ahead : (s : List ℕ) (at n : ℕ) → at + n ≤ length s → NoneIn s at (at + n) 0x7E 0x5C → ahead n (drop at s) ≡ whole n (take n (drop at s)) (drop (at + n) s)
unfolding ahead
plain_ahead s at zero h none = ap (λ (k : ℕ). whole 0 [] (drop k s)) (let e : at ≡ at + 0 = omega arith in e)
plain_ahead s at (suc n) h none =
    let k : suc n ≡ n + 1 = omega arith in
    let i : at + n + 1 ≡ at + suc n = omega arith in
    let p = none (at + n) (omega arith) (omega arith) in
    let x : get_or (drop at s) n 0 ≡ get_or s (at + n) 0 = get_or-drop at s n 0 in
    ap (λ (j : ℕ). ahead j (drop at s)) k
    ∙ ahead_more n 1 (drop at s)
    ∙ ap (more 1) (plain_ahead s at n (omega arith) (λ j l u. none j l (omega arith)))
    ∙ ap (behind n (take n (drop at s))) (first_plain s (at + n) (omega arith) p.0 p.1)
    ∙ ap₂ (λ (j : ℕ) (l : List ℕ). whole (n + 1) l (drop j s)) i
    (ap (λ (y : ℕ). take n (drop at s) ++ (y ∷ [])) (sym x) ∙ sym (take-suc (drop at s) n 0 (omega (arith, length-drop at s))))
    ∙ ap (λ (j : ℕ). whole j (take (suc n) (drop at s)) (drop (at + suc n) s)) (sym k)

-- ---- the bytes passed hold no start byte
clear_at : (w : ℕ) (bs : List ℕ) → NoStart (take w bs) → (i : ℕ) → i < w → i < length bs → get_or bs i 0 ≡ 0x7E → ⊥
clear_at zero bs h i l u = absurd (omega arith)
clear_at (suc w) [] h i l u = absurd (omega arith)
clear_at (suc w) (b ∷ bs) h zero l u = h.0
clear_at (suc w) (b ∷ bs) h (suc i) l u = clear_at w bs h.1 i (omega arith) (omega arith)

pub clear_in : (s : List ℕ) (from to : ℕ) → from ≤ to → to ≤ length s → NoStart (take (to - from) (drop from s)) → NoStartIn s from to
clear_in s from to l u h i li ui q =
    let k : from + (i - from) ≡ i = omega arith in
    clear_at (to - from) (drop from s) h (i - from) (omega arith) (omega (arith, length-drop from s))
    (get_or-drop from s (i - from) 0 ∙ ap (λ (j : ℕ). get_or s j 0) k ∙ q)

pub holds_clear : {s : List ℕ} {from got at : ℕ} {store : List ℕ} → Holds s from got at store → NoStartIn s from at
holds_clear {s} {from} {got} {at} h = clear_in s from at h.forward h.within (reached h.bytes).clear

-- ---- more unescaped bytes in the store
pub holds_none : (s : List ℕ) (from : ℕ) (store : List ℕ) → from ≤ length s → Holds s from 0 from store
unfolding ahead
holds_none s from store h =
    record {
      bytes = ap (λ (k : ℕ). whole k [] (drop from s)) (let e : 0 ≡ from - from = omega arith in e);
      forward = omega arith;
      within = h;
    }

pub takes_holds : {s : List ℕ} {at most got at' : ℕ} {store store' : List ℕ} → at ≤ length s → Takes s 0 at most store got at' store' → Holds s at got at' store'
takes_holds {s} {at} {store = store} h t = t.holds at (holds_none s at store h)

-- behind those that the store holds, others
module _ {s : List ℕ} {from got at : ℕ} {store : List ℕ} (h : Holds s from got at store) where
  holds_more : (n w : ℕ) (vs store' : List ℕ) → ahead n (drop at s) ≡ whole w vs (drop (at + w) s) → take (got + n) store' ≡ take got store ++ vs
      → Holds s from (got + n) (at + w) store'
  holds_more n w vs store' e t =
      let k : at - from + w ≡ at + w - from = omega (arith, h.forward) in
      record {
        bytes =
            ahead_more got n (drop from s)
            ∙ ap (more n) h.bytes
            ∙ ap (behind (at - from) (take got store)) e
            ∙ ap₂ (λ (j : ℕ) (l : List ℕ). whole j l (drop (at + w) s)) k (sym t);
        forward = omega (arith, h.forward);
        within = reach_within s at n h.within e;
      }

  -- one
  pub holds_byte : {w v : ℕ} → ahead 1 (drop at s) ≡ whole w (v ∷ []) (drop (at + w) s) → got < length store → Holds s from (got + 1) (at + w) (set store got v)
  holds_byte {w} {v} e u =
      holds_more 1 w (v ∷ []) (set store got v) e
      (ap (λ (k : ℕ). take k (set store got v)) (let q : got + 1 ≡ suc got = omega arith in q) ∙ take-suc-set store got v u)

  -- bytes that stand for themselves
  pub holds_plain : (n : ℕ) → at + n ≤ length s → NoneIn s at (at + n) 0x7E 0x5C → got + n ≤ length store
      → Holds s from (got + n) (at + n) (sets store got (take n (drop at s)))
  holds_plain n u none r =
      let vs : List ℕ = take n (drop at s) in
      let l : length vs ≡ n = length-take-le n (drop at s) (omega (arith, length-drop at s)) in
      holds_more n n vs (sets store got vs) (plain_ahead s at n u none)
      (ap (take (got + n)) (sets-eq vs store got (omega arith))
      ∙ take_at (take got store ++ vs) (drop (got + length vs) store) (got + n)
      (omega (arith, length-append (take got store) vs, length-take-le got store (omega arith))))

-- ---- some at once
-- up to a lower limit
pub continues_by : {s : List ℕ} {got at most least : ℕ} {store : List ℕ} {got' at' : ℕ} {store' : List ℕ} → got < least → least ≤ most
    → Takes s got at least store got' at' store' → Continues s got at most store got' at' store'
continues_by l u h = record { more = h.more; limit = omega (arith, h.limit); holds = h.holds; stuck = λ e. h.stuck (omega arith) }

-- bytes that stand for themselves
pub continues_plain : {s : List ℕ} {got at most : ℕ} {store store' : List ℕ} (n : ℕ) → 0 < n → at + n ≤ length s → NoneIn s at (at + n) 0x7E 0x5C
    → got + n ≤ most → most ≤ length store → store' ≡ sets store got (take n (drop at s)) → Continues s got at most store (got + n) (at + n) store'
continues_plain {s} {got} {at} {most} {store} n p u none l m e =
    record {
      more = omega arith;
      limit = l;
      holds = λ from h. subst (Holds s from (got + n) (at + n)) (sym e) (holds_plain h n u none (omega arith));
      stuck = λ q. absurd (omega arith);
    }

-- ---- where the store holds fewer than were looked for
pub holds_stuck : {s : List ℕ} {from got at : ℕ} {store : List ℕ} (n : ℕ) → Holds s from got at store → got < n → Stuck (ahead 1 (drop at s))
    → ahead n (drop from s) ≡ behind (at - from) (take got store) (ahead 1 (drop at s))
holds_stuck {s} {from} {got} {at} {store} n h l stuck =
    ap (λ (k : ℕ). ahead k (drop from s)) (let e : n ≡ got + (1 + (n - got - 1)) = omega arith in e)
    ∙ ahead_more got (1 + (n - got - 1)) (drop from s)
    ∙ ap (more (1 + (n - got - 1))) h.bytes
    ∙ ap (behind (at - from) (take got store)) (ahead_stuck (n - got - 1) (drop at s) stuck)
