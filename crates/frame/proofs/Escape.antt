-- Laws of escaping, and of stores that escape byte by byte. Assumes nothing.
use mathlib.Core.Path.{◌≡◌, refl, sym, ap, ◌∙◌}
use mathlib.Core.List.{List, [], ◌∷◌, ◌++◌, append_assoc}
use mathlib.Core.Bool.{true, false, not, ◌||◌}
use Prim.Native.Nat.{ℕ, ◌+◌, ◌*◌, ◌≤◌, ◌<◌}
use native.Mathlib.Numerals.{add-one}
use native.Mathlib.Omega.{arith}
use borrow.Author.Tests.{ltb-false}
use lib.Bits.{bit_xor}
use lib.Dec.{eqb, ltb}
use lib.ListN.{length, drop, get_or, set, length-append, drop_of_length-le}
use lib.Seq.{drop-cons, sets}
use Rattle.wire.specs.Numbers.{le}
use Rattle.wire.proofs.Choice.{or_fails, pick_all}
use Rattle.wire.proofs.Lists.{sets_then}
use Rattle.crc.specs.Crc.{crc_of}
use Rattle.frame.specs.Image.{is_mark, escape_byte, escape, covered, wire_frame, image}
use Rattle.frame.specs.Writer.{bad_frame, header_of, sent}

pub escape_mark : (b : ℕ) → is_mark b ≡ true → escape_byte b ≡ 0x5C ∷ bit_xor b 0x40 ∷ []
unfolding escape_byte
escape_mark b h = simp h

pub escape_plain : (b : ℕ) → is_mark b ≡ false → escape_byte b ≡ b ∷ []
unfolding escape_byte
escape_plain b h = simp h

pub escape_append : (a b : List ℕ) → escape (a ++ b) ≡ escape a ++ escape b
unfolding escape
escape_append [] b = refl
escape_append (x ∷ a) b =
    ap (λ (l : List ℕ). escape_byte x ++ l) (escape_append a b) ∙ sym (append_assoc (escape_byte x) (escape a) (escape b))

-- ---- how many bytes a frame is on the line
pub escape_byte_length : (b : ℕ) → (1 ≤ length (escape_byte b)) × (length (escape_byte b) ≤ 2)
unfolding escape_byte
escape_byte_length b = pick_all (λ (l : List ℕ). (1 ≤ length l) × (length l ≤ 2)) (is_mark b) (λ t. (omega arith, omega arith)) (λ t. (omega arith, omega arith))

-- as many bytes as were escaped at least, and twice as many at most
pub escape_length : (bs : List ℕ) → (length bs ≤ length (escape bs)) × (length (escape bs) ≤ 2 * length bs)
unfolding escape
escape_length [] = (omega arith, omega arith)
escape_length (b ∷ bs) =
    let one = escape_byte_length b in
    let more = escape_length bs in
    let both = length-append (escape_byte b) (escape bs) in
    (omega (arith, one.0, more.0, both), omega (arith, one.1, more.1, both))

-- A frame of any size field s: at least s + 3 bytes and at most 2s + 5.
pub frame_length : (size : ℕ) (bytes : List ℕ) → length bytes ≡ size → (size + 3 ≤ length (wire_frame size bytes)) × (length (wire_frame size bytes) ≤ 2 * size + 5)
frame_length size bytes e =
    let l = escape_length (le 2 size ++ bytes) in
    let both = length-append (le 2 size) bytes in
    (omega (arith, l.0, both), omega (arith, l.1, both))

module _ (s : List ℕ) (i : ℕ) where
  rest_cons : i < length s → escape (drop i s) ≡ escape_byte (get_or s i 0) ++ escape (drop (i + 1) s)
  unfolding escape
  rest_cons h = rw add-one (ap escape (drop-cons s i 0 h))

  -- one byte less is left
  pub rest_length : i < length s → length (escape (drop i s)) ≡ length (escape_byte (get_or s i 0)) + length (escape (drop (i + 1) s))
  rest_length h = ap length (rest_cons h) ∙ length-append (escape_byte (get_or s i 0)) (escape (drop (i + 1) s))

  -- nothing is left
  pub rest_none : length s ≤ i → escape (drop i s) ≡ []
  unfolding escape
  rest_none h = ap escape (drop_of_length-le s h)

  -- a turn of the loop that writes
  pub rest_stored : (o o' t : List ℕ) (at at' : ℕ) → i < length s → at' ≡ at + length (escape_byte (get_or s i 0)) → o' ≡ sets o at (escape_byte (get_or s i 0))
      → sets o at (escape (drop i s)) ≡ t → sets o' at' (escape (drop (i + 1) s)) ≡ t
  rest_stored o o' t at at' h ea eo q =
      rw (eo)
      (sets_then (escape_byte (get_or s i 0)) (escape (drop (i + 1) s)) o at at' ea ∙ ap (sets o at) (sym (rest_cons h)) ∙ q)

module _ (head payload tail : List ℕ) where
  pub sent_length : length (sent head payload tail) ≡ 1 + length (escape head) + length (escape payload) + length (escape tail)
  sent_length = simp length-append (omega arith)

  -- a start byte and three parts, each put where the last ends
  pub sent_stored : (o o₁ o₂ o₃ : List ℕ) (p q : ℕ)
      → p ≡ 1 + length (escape head) → o₁ ≡ sets (set o 0 0x7E) 1 (escape head)
      → q ≡ p + length (escape payload) → o₂ ≡ sets o₁ p (escape payload)
      → o₃ ≡ sets o₂ q (escape tail) → o₃ ≡ sets o 0 (sent head payload tail)
  sent_stored o o₁ o₂ o₃ p q ep e₁ eq e₂ e₃ =
      rw (e₃, e₂, e₁)
      (ap (λ (l : List ℕ). sets l q (escape tail)) (sets_then (escape head) (escape payload) (set o 0 0x7E) 1 p ep)
      ∙ sets_then (escape head ++ escape payload) (escape tail) (set o 0 0x7E) 1 q (omega (arith, length-append (escape head) (escape payload)))
      ∙ ap (sets (set o 0 0x7E) 1) (append_assoc (escape head) (escape payload) (escape tail)))

-- a frame's image is its header, payload and CRC sent
pub sent_image : (wrapper : ℕ) (payload : List ℕ) → sent (header_of wrapper (length payload)) payload (le 2 (crc_of (covered wrapper payload))) ≡ image wrapper payload
sent_image wrapper payload =
    let t : List ℕ = le 2 (crc_of (covered wrapper payload)) in
    let h : List ℕ = header_of wrapper (length payload) in
    ap (λ (l : List ℕ). 0x7E ∷ l) (ap (λ (l : List ℕ). escape h ++ l) (sym (escape_append payload t)) ∙ sym (escape_append h (payload ++ t)))

pub good_length : (wrapper len : ℕ) → bad_frame wrapper len ≡ false → len ≤ 507
unfolding bad_frame
good_length wrapper len h = ltb-false 507 len (or_fails (not (eqb wrapper 0 || eqb wrapper 128)) (ltb 507 len) h).1
