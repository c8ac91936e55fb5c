-- Elements packed in a number: what is done to the number is done to each of them. Assumes nothing.
use mathlib.Core.Path.{◌≡◌, ◌∙◌, refl, sym, ap, ap₂}
use mathlib.Core.List.{List, [], ◌∷◌}
use Prim.Native.Nat.{ℕ, zero, suc, ◌+◌, ◌-◌, ◌*◌, ◌/◌, ◌%◌, ◌^◌, ◌<◌}
use native.Mathlib.Nat.{not-suc-le-zero, le_of_suc-le-suc, le_trans, le_of_eq, lt_of_lt_of_le, zero-lt-suc, zero-mul, add-mul, mul_right_comm, mul-div_cancel, div-add-mod', div-lt_iff_lt-mul, mod-eq_of_lt, pow-suc}
use native.Mathlib.Omega.{arith}
use lib.Arith.{lt-one, digits_lt, digits_div, digits_mod}
use lib.Bits.{bit_and, bit_xor, and_block, xor_block, and_mask, and_high, and_lt}
use lib.Dec.{lit<}
use lib.ListN.{get_or}
use lib.Pow.{pow_pos}
use mir.Syntax.{w8}
use mir.Val.{Fits}
use Rattle.aes.specs.Field.{◌⊕◌}
use Rattle.aes.specs.Cipher.{four}
use Rattle.aes.specs.Packed.{packed, element, each, two_rows, times_x}
use Rattle.aes.proofs.Bytes.{xor_byte, times_x_byte, four_bytes, append_bytes}
use Rattle.aes.proofs.Cells.{by_four}
use Rattle.aes.proofs.Turns.{digit_fits}

-- every element is a byte
abbrev pub Bytewise : (ℕ → ℕ) → Type 0
Bytewise f = (i : ℕ) → f i < 256

-- ---- numbers and their elements
pub element_byte : (w : ℕ) → Bytewise (element w)
element_byte w zero = omega arith
element_byte w (suc i) = element_byte (w / 256) i

element_is : (n : ℕ) (f : ℕ → ℕ) → Bytewise f → (i : ℕ) → i < n → element (packed n f) i ≡ f i
unfolding packed
element_is zero f h i lt = absurd (not-suc-le-zero lt)
element_is (suc n) f h zero lt = digits_mod (packed n (λ i. f (suc i))) (h 0)
element_is (suc n) f h (suc i) lt =
    ap (λ (w : ℕ). element w i) (digits_div (packed n (λ i. f (suc i))) (h 0))
    ∙ element_is n (λ i. f (suc i)) (λ i. h (suc i)) i (le_of_suc-le-suc lt)

whole : (n w : ℕ) → w < 256 ^ n → w ≡ packed n (element w)
unfolding packed
whole zero w h = lt-one h
whole (suc n) w h =
    sym (div-add-mod' w 256)
    ∙ ap (λ (x : ℕ). x * 256 + w % 256)
    (whole n (w / 256) ((div-lt_iff_lt-mul (zero-lt-suc 255)).1 (lt_of_lt_of_le h (le_of_eq (pow-suc 256 n)))))

packed_lt : (n : ℕ) (f : ℕ → ℕ) → Bytewise f → packed n f < 256 ^ n
unfolding packed
packed_lt zero f h = zero-lt-suc 0
packed_lt (suc n) f h =
    lt_of_lt_of_le (digits_lt (packed_lt n (λ i. f (suc i)) (λ i. h (suc i))) (h 0)) (le_of_eq (sym (pow-suc 256 n)))

-- numbers are equal where their elements are
pub same_elements : (n : ℕ) (f g : ℕ → ℕ) → ((i : ℕ) → i < n → f i ≡ g i) → packed n f ≡ packed n g
unfolding packed
same_elements zero f g h = refl
same_elements (suc n) f g h =
    ap₂ (λ (x y : ℕ). x * 256 + y) (same_elements n (λ i. f (suc i)) (λ i. g (suc i)) (λ i lt. h (suc i) (omega arith))) (h 0 (zero-lt-suc n))

-- ---- what is done to each
-- an operation on digits
module _ (op : ℕ → ℕ → ℕ) (none : op 0 0 ≡ 0)
    (block : (a b r s : ℕ) → r < 256 → s < 256 → op (a * 256 + r) (b * 256 + s) ≡ op a b * 256 + op r s) where
  op_packed : (n : ℕ) (f g : ℕ → ℕ) → Bytewise f → Bytewise g → op (packed n f) (packed n g) ≡ packed n (λ i. op (f i) (g i))
  unfolding packed
  op_packed zero f g hf hg = none
  op_packed (suc n) f g hf hg =
      block (packed n (λ i. f (suc i))) (packed n (λ i. g (suc i))) (f 0) (g 0) (hf 0) (hg 0)
      ∙ ap (λ (x : ℕ). x * 256 + op (f 0) (g 0)) (op_packed n (λ i. f (suc i)) (λ i. g (suc i)) (λ i. hf (suc i)) (λ i. hg (suc i)))

mul_packed : (n : ℕ) (f : ℕ → ℕ) (c : ℕ) → packed n f * c ≡ packed n (λ i. f i * c)
unfolding packed
mul_packed zero f c = zero-mul c
mul_packed (suc n) f c =
    let p : ℕ = packed n (λ i. f (suc i)) in
    add-mul (p * 256) (f 0) c ∙ ap (λ (x : ℕ). x + f 0 * c) (mul_right_comm p 256 c ∙ ap (λ (x : ℕ). x * 256) (mul_packed n (λ i. f (suc i)) c))

div_packed : (n : ℕ) (f : ℕ → ℕ) (c : ℕ) → 0 < c → packed n (λ i. f i * c) / c ≡ packed n f
div_packed n f c h = ap (λ (x : ℕ). x / c) (sym (mul_packed n f c)) ∙ mul-div_cancel (packed n f) h

-- ---- numbers of eight bytes
abbrev pub U64 : ℕ → Type 0
U64 w = w < 256 ^ 8

-- a number's elements are f 0 .. f 7
pub record Elements (w : ℕ) (f : ℕ → ℕ) : Type 0 where
  pub number : w ≡ packed 8 f
  pub bytes : Bytewise f

-- those that it has
pub elements : (w : ℕ) → U64 w → Elements w (element w)
elements w h = record { number = whole 8 w h; bytes = element_byte w }

pub element_at : {w : ℕ} {f : ℕ → ℕ} → Elements w f → (i : ℕ) → i < 8 → element w i ≡ f i
element_at {w} {f} e i h = ap (λ (w : ℕ). element w i) e.number ∙ element_is 8 f e.bytes i h

pub elements_lt : {w : ℕ} {f : ℕ → ℕ} → Elements w f → U64 w
elements_lt {w} {f} e = le_trans (le_of_eq (ap suc e.number)) (packed_lt 8 f e.bytes)

-- a rule at each element
pub by_element : {w : ℕ} {f : ℕ → ℕ} (g : ℕ → ℕ) → Elements w f → ((i : ℕ) → i < 8 → f i ≡ g i) → w ≡ packed 8 g
by_element {w} {f} g e h = e.number ∙ same_elements 8 f g h

-- the same byte everywhere
pub repeated : (m : ℕ) → m < 256 → Elements (packed 8 (λ i. m)) (λ i. m)
repeated m h = record { number = refl; bytes = λ i. h }

-- what a function gave for each element
pub applied : {w v : ℕ} {f : ℕ → ℕ} (g : ℕ → ℕ) → Elements w f → Bytewise (λ i. g (f i)) → v ≡ each g w → Elements v (λ i. g (f i))
applied {w} {v} {f} g e h q =
    record { number = q ∙ same_elements 8 (λ i. g (element w i)) (λ i. g (f i)) (λ i lt. ap g (element_at e i lt)); bytes = h }

-- one function behind another
pub both_applied : {w i v : ℕ} (f g : ℕ → ℕ) → ((b : ℕ) → b < 256 → f b < 256) → ((b : ℕ) → b < 256 → g b < 256)
    → U64 w → i ≡ each f w → v ≡ each g i → v ≡ each (λ b. g (f b)) w
both_applied {w} f g hf hg h p q =
    let byte : Bytewise (λ i. f (element w i)) = λ i. hf (element w i) (element_byte w i) in
    (applied g (applied f (elements w h) byte p) (λ i. hg (f (element w i)) (byte i)) q).number

-- what a function gave for a byte, the lowest of eight
pub lowest : {v : ℕ} (g : ℕ → ℕ) → ((b : ℕ) → g b < 256) → (b : ℕ) → b < 256 → v ≡ each g b → v % 256 ≡ g b
lowest {v} g h b lt q = element_at (record { number = q; bytes = λ i. h (element b i) }) 0 (lit< tt) ∙ ap g (mod-eq_of_lt lt)

-- two rows in a number, and out of it
pub of_rows : {w : ℕ} (a b : List ℕ) → ((i : ℕ) → Fits w8 (get_or a i 0)) → ((i : ℕ) → Fits w8 (get_or b i 0)) → w ≡ packed 8 (two_rows a b)
    → Elements w (two_rows a b)
of_rows a b ha hb q =
    record {
      number = q;
      bytes = append_bytes (four (λ c. get_or a c 0)) (four (λ c. get_or b c 0)) (four_bytes (λ c. get_or a c 0) (λ i. (ha i).fits))
          (four_bytes (λ c. get_or b c 0) (λ i. (hb i).fits));
    }

pub both_rows : {w : ℕ} {f : ℕ → ℕ} → Elements w f
    → ◌≡◌ {A = List (List ℕ)} (four (λ c. element w c) ∷ four (λ c. element w (4 + c)) ∷ []) (four f ∷ four (λ c. f (4 + c)) ∷ [])
both_rows e =
    λ t. by_four (element_at e 0 (lit< tt)) (element_at e 1 (lit< tt)) (element_at e 2 (lit< tt)) (element_at e 3 (lit< tt)) t
    ∷ by_four (element_at e 4 (lit< tt)) (element_at e 5 (lit< tt)) (element_at e 6 (lit< tt)) (element_at e 7 (lit< tt)) t ∷ []

-- a function on each byte of two rows
pub rows_applied : {p v : ℕ} (g : ℕ → ℕ) → ((b : ℕ) → g b < 256) → (a b : List ℕ) → ((i : ℕ) → Fits w8 (get_or a i 0)) → ((i : ℕ) → Fits w8 (get_or b i 0))
    → p ≡ packed 8 (two_rows a b) → v ≡ each g p
    → ◌≡◌ {A = List (List ℕ)} (four (element v) ∷ four (λ c. element v (4 + c)) ∷ []) (four (λ c. g (get_or a c 0)) ∷ four (λ c. g (get_or b c 0)) ∷ [])
rows_applied g h a b ha hb p q = both_rows (applied g (of_rows a b ha hb p) (λ i. h (two_rows a b i)) q)

-- ---- sums, products by a constant, masks
pub xor_elements : {u v : ℕ} {f g : ℕ → ℕ} → Elements u f → Elements v g → Elements (u ⊕ v) (λ i. f i ⊕ g i)
xor_elements {f = f} {g = g} d e =
    record {
      number = ap₂ bit_xor d.number e.number ∙ op_packed bit_xor refl (xor_block 8) 8 f g d.bytes e.bytes;
      bytes = λ i. xor_byte (d.bytes i) (e.bytes i);
    }

pub and_elements : {u v : ℕ} {f g : ℕ → ℕ} → Elements u f → Elements v g → Elements (bit_and u v) (λ i. bit_and (f i) (g i))
and_elements {f = f} {g = g} d e =
    record {
      number = ap₂ bit_and d.number e.number ∙ op_packed bit_and refl (and_block 8) 8 f g d.bytes e.bytes;
      bytes = λ i. and_lt 8 (f i) (g i) (d.bytes i) (e.bytes i);
    }

pub times_elements : {w : ℕ} (f : ℕ → ℕ) (c : ℕ) → w ≡ packed 8 f → Bytewise (λ i. f i * c) → Elements (w * c) (λ i. f i * c)
times_elements f c e h = record { number = ap (λ (x : ℕ). x * c) e ∙ mul_packed 8 f c; bytes = h }

masked : (w m : ℕ) → U64 w → m < 256 → bit_and w (packed 8 (λ i. m)) ≡ each (λ b. bit_and b m) w
masked w m hw hm = (and_elements (elements w hw) (repeated m hm)).number

-- the j digits of each from digit k on, as a number
pub from_digit : (w j k : ℕ) → U64 w → 2 ^ (j + k) - 2 ^ k < 256
    → bit_and w (packed 8 (λ i. 2 ^ (j + k) - 2 ^ k)) / 2 ^ k ≡ each (λ b. b / 2 ^ k % 2 ^ j) w
from_digit w j k hw hm =
    ap (λ (x : ℕ). x / 2 ^ k) (masked w (2 ^ (j + k) - 2 ^ k) hw hm ∙ (λ t. each (λ b. and_high b j k t) w))
    ∙ div_packed 8 (λ i. element w i / 2 ^ k % 2 ^ j) (2 ^ k) (pow_pos k)

-- the k low digits of each
pub low_digits : (w k : ℕ) → U64 w → 2 ^ k - 1 < 256 → bit_and w (packed 8 (λ i. 2 ^ k - 1)) ≡ each (λ b. b % 2 ^ k) w
low_digits w k hw hm = masked w (2 ^ k - 1) hw hm ∙ (λ t. each (λ b. and_mask b k t) w)

-- digit k of each, c times
pub digit : (w k c : ℕ) → U64 w → 2 ^ (1 + k) - 2 ^ k < 256 → c < 256
    → Elements (bit_and w (packed 8 (λ i. 2 ^ (1 + k) - 2 ^ k)) / 2 ^ k * c) (λ i. element w i / 2 ^ k % 2 * c)
digit w k c hw hm hc = times_elements (λ i. element w i / 2 ^ k % 2) c (from_digit w 1 k hw hm) (λ i. digit_fits (element w i / 2 ^ k) c hc)

-- ---- times x
doubled : (b : ℕ) → b % 128 * 2 ≡ b * 2 % 256
doubled b = omega arith

doubled_byte : (b : ℕ) → b % 128 * 2 < 256
doubled_byte b = omega arith

-- the highest digit of each, r times, and the others doubled
pub top_digit : (w r : ℕ) → U64 w → r < 256 → Elements (bit_and w 0x8080808080808080 / 128 * r) (λ i. element w i / 128 % 2 * r)
unfolding packed
top_digit w r hw hr = digit w 7 r hw (lit< tt) hr

low_doubled : (w : ℕ) → U64 w → Elements (bit_and w 0x7f7f7f7f7f7f7f7f * 2) (λ i. element w i % 128 * 2)
unfolding packed
low_doubled w h = times_elements (λ i. element w i % 128) 2 (low_digits w 7 h (lit< tt)) (λ i. doubled_byte (element w i))

pub times_x_is : (w r : ℕ) → U64 w → r < 256
    → bit_and w 0x7f7f7f7f7f7f7f7f * 2 ⊕ bit_and w 0x8080808080808080 / 128 * r ≡ each (times_x r) w
unfolding times_x
times_x_is w r hw hr = (xor_elements (low_doubled w hw) (top_digit w r hw hr)).number ∙ (λ t. each (λ b. doubled b t ⊕ b / 128 % 2 * r) w)

-- times x once more
pub times_x_applied : {w v : ℕ} {f : ℕ → ℕ} (r : ℕ) → r < 256 → Elements w f → v ≡ each (times_x r) w → Elements v (λ i. times_x r (f i))
times_x_applied {f = f} r h e q = applied (times_x r) e (λ i. times_x_byte r (f i) h) q
