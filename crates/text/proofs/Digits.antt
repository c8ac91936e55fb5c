-- The digits of a number, the last first, and the turns of the loops that put texts. Assumes nothing.
use mathlib.Core.Path.{◌≡◌, sym, ◌∙◌}
use mathlib.Core.List.{List, [], ◌∷◌, ◌++◌, append-nil}
use Prim.Native.Nat.{ℕ, zero, suc, ◌+◌, ◌-◌, ◌^◌, ◌/◌, ◌%◌, ◌≤◌, ◌<◌}
use native.Mathlib.Nat.{pow-suc}
use native.Mathlib.Numerals.{add-one}
use native.Mathlib.Omega.{arith}
use lib.ListN.{length, take, drop, length-drop, set, get_or, length-set, drop_of_length-le, length-append}
use lib.Seq.{take_all, drop-cons, drop-set-lt, get_or-set_same, append_snoc}
use lib.Dec.{ltb}
use borrow.Author.Tests.{lt-ltb, le-ltb}
use Rattle.wire.proofs.Choice.{pick_all}
use Rattle.text.specs.Digits.{digit, decimal_in, decimal, decimals, hex}

-- ---- a number's last digits stand at the end of a room of 20 bytes, and those of the rest are to come in front of them
pub record Left (n : ℕ) (room : List ℕ) (i rest : ℕ) : Type 0 where
  pub least : 1 ≤ i
  pub most : i ≤ 20
  pub below : rest < 10 ^ i
  pub whole : length room ≡ 20
  pub same : decimal_in i rest ++ drop i room ≡ decimal n

pub left_all : (n : ℕ) (room : List ℕ) → n < 10 ^ 20 → length room ≡ 20 → Left n room 20 n
left_all n room h l =
    record {
      least = omega arith;
      most = omega arith;
      below = h;
      whole = l;
      same = rw (drop_of_length-le {A = ℕ} room {i = 20} (omega arith), append-nil (decimal_in 20 n));
    }

-- a digit in front of what stands behind it
set_front : (room : List ℕ) (j d : ℕ) → j < length room → drop j (set room j d) ≡ d ∷ drop (suc j) room
set_front room j d h =
    drop-cons (set room j d) j 0 (omega (arith, length-set room j d))
    ∙ rw (get_or-set_same room j d 0 h, drop-set-lt (suc j) room j d (omega arith))

-- a number of two digits at least has one digit less when divided by 10
fewer : (i j n : ℕ) → i ≡ suc j → 9 < n → n < 10 ^ i → (1 ≤ j) × (n / 10 < 10 ^ j)
fewer i zero n e h b = absurd (omega (arith, rw e at b))
fewer i (suc k) n e h b = (omega arith, omega (arith, rw (e, pow-suc 10 (suc k)) at b))

module _ {n : ℕ} {room : List ℕ} {i rest : ℕ} (l : Left n room i rest) (j : ℕ) (e : i ≡ suc j) where
  pub left_less : {d : ℕ} → 9 < rest → d ≡ digit (rest % 10) → Left n (set room j d) j (rest / 10)
  unfolding decimal_in
  left_less {d} h q =
      let f = fewer i j rest e h l.below in
      record {
        least = f.0;
        most = omega arith;
        below = f.1;
        whole = length-set room j d ∙ l.whole;
        same =
            rw (set_front room j d (omega arith), q)
            (sym (append_snoc (decimal_in j (rest / 10)) (digit (rest % 10)) (drop (suc j) room)) ∙ rw (e, le-ltb rest 10 h) at l.same);
      }

  pub left_none : {d : ℕ} → rest ≤ 9 → d ≡ digit rest → take (20 - j) (drop j (set room j d)) ≡ decimal n
  unfolding decimal_in
  left_none {d} h q =
      let k : rest < 10 = omega arith in
      take_all (20 - j) (drop j (set room j d)) (omega (arith, length-drop j (set room j d), length-set room j d, l.whole))
      ∙ rw (q, set_front room j (digit rest) (omega arith), lt-ltb rest 10 k) (rw (e, lt-ltb rest 10 k) at l.same)

pub decimal_length : (k n : ℕ) → length (decimal_in k n) ≤ k
unfolding decimal_in
decimal_length zero n = omega arith
decimal_length (suc k) n =
    pick_all (λ (l : List ℕ). length l ≤ suc k) (ltb n 10)
    (λ e. omega arith)
    (λ e. omega (arith, length-append (decimal_in k (n / 10)) (digit (n % 10) ∷ []), decimal_length k (n / 10)))

-- ---- at a place of a list
pub decimals_at : (s : List ℕ) (i : ℕ) → i < length s → decimals (drop i s) ≡ (32 ∷ decimal (get_or s i 0)) ++ decimals (drop (i + 1) s)
unfolding decimals
decimals_at s i h = rw (add-one i, drop-cons s i 0 h)

pub hex_at : (s : List ℕ) (i : ℕ) {d e : ℕ} → i < length s → d ≡ digit (get_or s i 0 / 16) → e ≡ digit (get_or s i 0 % 16)
    → hex (drop i s) ≡ (d ∷ e ∷ []) ++ hex (drop (i + 1) s)
unfolding hex
hex_at s i h p q = rw (p, q, add-one i, drop-cons s i 0 h)

pub decimals_past : (s : List ℕ) (i : ℕ) → length s ≤ i → decimals (drop i s) ≡ []
unfolding decimals
decimals_past s i h = rw (drop_of_length-le s h)

pub hex_past : (s : List ℕ) (i : ℕ) → length s ≤ i → hex (drop i s) ≡ []
unfolding hex
hex_past s i h = rw (drop_of_length-le s h)
