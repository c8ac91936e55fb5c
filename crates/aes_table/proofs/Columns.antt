-- Columns of four bytes as words: sums, the state of four, MixColumns by turned products, a round key's words. Assumes nothing.
use mathlib.Core.Path.{◌≡◌, ◌∙◌, refl, sym, ap}
use mathlib.Core.List.{List, [], ◌∷◌, ◌++◌}
use Prim.Native.Nat.{ℕ, ◌+◌, ◌*◌, ◌^◌, ◌/◌, ◌%◌, ◌<◌}
use native.Mathlib.Omega.{arith}
use lib.Bits.{xor_shr, xor_mod, xor_comm, and_shifted}
use Rattle.std.specs.Int.Bits.{bit_or}
use Rattle.std.specs.Int.{rotate_left}
use Rattle.std.proofs.Common.{w32}
use Rattle.std.proofs.lemmas.Nat.{or_disjoint}
use lib.ListN.{get_or}
use Rattle.wire.specs.Numbers.{Bytes, num, le}
use Rattle.wire.proofs.Numbers.{bytes_none, bytes_cons, le_num}
use Rattle.wire.proofs.Xor.{xor_assoc}
use Rattle.aes.specs.Field.{◌⊕◌, ◌•◌}
use Rattle.aes.specs.Cipher.{four, rows, cell, of_state, xor_word, chained, mixed}
use Rattle.aes.proofs.Bytes.{four_bytes}
use Rattle.aes.proofs.Cells.{by_four}
use Rattle.aes_table.specs.Words.{state_of, down, products, mixed_column}

-- ---- words and their bytes

pub bytes_four : {a b c d : ℕ} → a < 256 → b < 256 → c < 256 → d < 256 → Bytes (a ∷ b ∷ c ∷ d ∷ [])
bytes_four {a} {b} {c} {d} ha hb hc hd =
    bytes_cons (b ∷ c ∷ d ∷ []) ha (bytes_cons (c ∷ d ∷ []) hb (bytes_cons (d ∷ []) hc (bytes_cons [] hd bytes_none)))

-- four bytes, read as a word
pub le_four : (f : ℕ → ℕ) → ((i : ℕ) → f i < 256) → le 4 (num 4 0 (four f)) ≡ four f
le_four f h = le_num (four f) (four_bytes f h) 4 0 (omega arith)

-- a word rotated by 8, 16 and 24 digits: its bytes turned down
or_sum : (a k b : ℕ) {x : ℕ} → x ≡ a * 2 ^ k → b < 2 ^ k → bit_or x b ≡ a * 2 ^ k + b
or_sum a k b e h = rw e (or_disjoint (a * 2 ^ k) b (and_shifted a k b h))

module _ (w : ℕ) {v : ℕ} (h : w < 4294967296) where
  pub rotated_8 : v ≡ rotate_left w32 w 8 → le 4 v ≡ down 1 (le 4 w)
  rotated_8 e =
      let s = e ∙ or_sum (w % 16777216) 8 (w / 16777216) (omega arith) (omega arith) in
      by_four (omega (arith, s)) (omega (arith, s)) (omega (arith, s)) (omega (arith, s))

  pub rotated_16 : v ≡ rotate_left w32 w 16 → le 4 v ≡ down 2 (le 4 w)
  rotated_16 e =
      let s = e ∙ or_sum (w % 65536) 16 (w / 65536) (omega arith) (omega arith) in
      by_four (omega (arith, s)) (omega (arith, s)) (omega (arith, s)) (omega (arith, s))

  pub rotated_24 : v ≡ rotate_left w32 w 24 → le 4 v ≡ down 3 (le 4 w)
  rotated_24 e =
      let s = e ∙ or_sum (w % 256) 24 (w / 256) (omega arith) (omega arith) in
      by_four (omega (arith, s)) (omega (arith, s)) (omega (arith, s)) (omega (arith, s))

-- a byte
pub le_byte : (c : ℕ) → c < 256 → le 4 c ≡ c ∷ 0 ∷ 0 ∷ 0 ∷ []
le_byte c h = by_four (omega arith) (omega arith) (omega arith) (omega arith)

-- a sum
pub le_xor : (x y : ℕ) → le 4 (x ⊕ y) ≡ xor_word (le 4 x) (le 4 y)
le_xor x y =
    let p : (x ⊕ y) / 256 ≡ x / 256 ⊕ y / 256 = xor_shr x y 8 in
    let q : (x ⊕ y) / 256 / 256 ≡ x / 256 / 256 ⊕ y / 256 / 256 = ap (λ (v : ℕ). v / 256) p ∙ xor_shr (x / 256) (y / 256) 8 in
    by_four (xor_mod x y 8)
    (ap (λ (v : ℕ). v % 256) p ∙ xor_mod (x / 256) (y / 256) 8)
    (ap (λ (v : ℕ). v % 256) q ∙ xor_mod (x / 256 / 256) (y / 256 / 256) 8)
    (ap (λ (v : ℕ). v / 256) q ∙ xor_shr (x / 256 / 256) (y / 256 / 256) 8)

-- ---- the state of four columns
abbrev pub of_columns : List ℕ → List ℕ → List ℕ → List ℕ → List (List ℕ)
of_columns a b c d = rows (λ r j. cell (a ∷ b ∷ c ∷ d ∷ []) j r)

pub state_xor : (s w : List ℕ) → state_of (four (λ j. get_or s j 0 ⊕ get_or w j 0)) ≡ rows (λ r j. cell (state_of s) r j ⊕ cell (state_of w) r j)
state_xor s w =
    λ i. of_columns (le_xor (get_or s 0 0) (get_or w 0 0) i) (le_xor (get_or s 1 0) (get_or w 1 0) i)
    (le_xor (get_or s 2 0) (get_or w 2 0) i) (le_xor (get_or s 3 0) (get_or w 3 0) i)

-- ---- MixColumns
turn_sum : (a b c d : ℕ) → a ⊕ b ⊕ c ⊕ d ≡ b ⊕ c ⊕ d ⊕ a
turn_sum a b c d = ap (λ (x : ℕ). x ⊕ d) (xor_assoc a b c) ∙ xor_assoc a (b ⊕ c) d ∙ xor_comm a (b ⊕ c ⊕ d)

-- what four bytes add to a column, each turned down to where it stands
pub mixed_sum : (a b c d : ℕ)
    → xor_word (xor_word (xor_word (products a) (down 1 (products b))) (down 2 (products c))) (down 3 (products d)) ≡ mixed_column a b c d
unfolding mixed
mixed_sum a b c d =
    by_four refl (turn_sum a (2 • b) (3 • c) d)
    (turn_sum a b (2 • c) (3 • d) ∙ turn_sum b (2 • c) (3 • d) a)
    (sym (turn_sum (2 • d) (3 • a) b c))

-- ---- the words of the next round key
pub chained_words : (k : List ℕ) (c t : ℕ)
    → (let w0 : ℕ = get_or k 0 0 ⊕ c ⊕ t in let w1 : ℕ = get_or k 1 0 ⊕ w0 in let w2 : ℕ = get_or k 2 0 ⊕ w1 in
    of_state (state_of (w0 ∷ w1 ∷ w2 ∷ (get_or k 3 0 ⊕ w2) ∷ [])) ≡ chained (of_state (state_of k)) (xor_word (le 4 c) (le 4 t)))
chained_words k c t =
    let w0 : ℕ = get_or k 0 0 ⊕ c ⊕ t in
    let w1 : ℕ = get_or k 1 0 ⊕ w0 in
    let w2 : ℕ = get_or k 2 0 ⊕ w1 in
    let p0 : le 4 w0 ≡ xor_word (le 4 (get_or k 0 0)) (xor_word (le 4 c) (le 4 t)) =
    ap (le 4) (xor_assoc (get_or k 0 0) c t) ∙ le_xor (get_or k 0 0) (c ⊕ t) ∙ ap (xor_word (le 4 (get_or k 0 0))) (le_xor c t) in
    let p1 = le_xor (get_or k 1 0) w0 ∙ ap (xor_word (le 4 (get_or k 1 0))) p0 in
    let p2 = le_xor (get_or k 2 0) w1 ∙ ap (xor_word (le 4 (get_or k 2 0))) p1 in
    let p3 = le_xor (get_or k 3 0) w2 ∙ ap (xor_word (le 4 (get_or k 3 0))) p2 in
    λ i. p0 i ++ (p1 i ++ (p2 i ++ p3 i))
