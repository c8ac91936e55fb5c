-- Numbers, an offset and the parts behind them; a message's data type before a command. Assumes nothing.
use Rattle.std.specs.Prelude.{Option}
use Prim.Native.Nat.{ℕ, ◌-◌, ◌<◌, ◌≤◌}
use mathlib.Core.Path.{◌≡◌, refl, sym, ap}
use mathlib.Core.List.{List, [], ◌∷◌, ◌++◌, append_assoc, append-nil}
use native.Mathlib.Omega.{arith}
use lib.IntN.{ℤ, pos, negsuc}
use mir.Syntax.{w8}
use mir.Val.{SFits}
use Rattle.wire.specs.Signed.{unsigned}
use Rattle.wire.specs.declared.Part.{Part}
use Rattle.text.specs.Ascii.{ascii}
use Rattle.text.specs.Puts.{Puts}
use Rattle.text.specs.Digits.{decimal, decimals}
use Rattle.text.proofs.Puts.{puts_then, puts_same}
use Rattle.content_text.specs.Content.{part_text, part_texts, rssi_text, offset_text}

pub two_parts :
    (a b : Part) {room mid after : List ℕ} {at p q : ℕ}
    → Puts (part_text a) at room p mid
    → Puts (part_text b) p mid q after
    → Puts (part_texts (a ∷ b ∷ [])) at room q after
two_parts a b x y = puts_then x (puts_same y (sym (append-nil (part_text b))))

-- ---- a signed number, by its byte
pub from_zero : (z : ℤ) → SFits w8 z → unsigned z < 128 → ascii " offset " ++ decimal (unsigned z) ≡ rssi_text z
from_zero (pos n) h k = refl
from_zero (negsuc n) h k = absurd (omega (arith, h.sfits))

pub below_zero : (z : ℤ) → SFits w8 z → 128 ≤ unsigned z → ascii " offset -" ++ decimal (256 - unsigned z) ≡ rssi_text z
below_zero (pos n) h k = absurd (omega (arith, h.sfits))
below_zero (negsuc n) h k = ap (λ (m : ℕ). ascii " offset -" ++ decimal m) (omega arith)

-- ---- numbers, an offset and parts behind them
pub behind_numbers :
    (ns : List ℕ) (ps : List Part) {room one two after : List ℕ} {o o' : Option ℤ} {at p q r : ℕ}
    → o ≡ o'
    → Puts (decimals ns) at room p one
    → Puts (offset_text o) p one q two
    → Puts (part_texts ps) q two r after
    → Puts (decimals ns ++ (offset_text o' ++ part_texts ps)) at room r after
behind_numbers ns ps d x y z = puts_then x (puts_then (puts_same y (ap offset_text d)) z)

typed : (n : ℕ) (ns t : List ℕ) → decimals (n ∷ []) ++ (decimals ns ++ t) ≡ decimals (n ∷ ns) ++ t
unfolding decimals
typed n ns t = simp append_assoc

pub behind_type :
    (n : ℕ) (ns t : List ℕ) {room mid after : List ℕ} {at p q : ℕ}
    → Puts (decimals (n ∷ [])) at room p mid
    → Puts (decimals ns ++ t) p mid q after
    → Puts (decimals (n ∷ ns) ++ t) at room q after
behind_type n ns t x y = puts_same (puts_then x y) (typed n ns t)
