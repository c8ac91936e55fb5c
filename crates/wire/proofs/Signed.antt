-- A byte and the signed number that it stands for. Assumes nothing.
use mathlib.Core.Path.{◌≡◌, refl, ap}
use mathlib.Core.Bool.{◌||◌}
use Prim.Native.Nat.{ℕ, ◌-◌, ◌<◌}
use native.Mathlib.Omega.{arith}
use borrow.Author.Tests.{lt-ltb, le-ltb, ltb-false}
use lib.IntN.{ℤ, pos, negsuc}
use lib.Dec.{ltb}
use mir.Syntax.{w8}
use mir.Val.{to_z, of_z, SFits}
use mir.ValLaws.{to_z-of_z}
use Rattle.wire.specs.Signed.{signed, unsigned}
use Rattle.wire.proofs.Choice.{pick_all, or_fails}

-- the byte of a byte's number is the byte
pub unsigned_signed : (b : ℕ) → unsigned (signed b) ≡ b
unsigned_signed b = pick_all (λ (z : ℤ). unsigned z ≡ b) (ltb b 128 || ltb 255 b) (λ e. refl) (λ e. omega (arith, ltb-false 255 b (or_fails (ltb b 128) (ltb 255 b) e).1))

-- the number of a number's byte is the number
pub signed_unsigned : (z : ℤ) → SFits w8 z → signed (unsigned z) ≡ z
signed_unsigned (pos n) h = rw (lt-ltb n 128 h.sfits)
signed_unsigned (negsuc n) h = rw (le-ltb (255 - n) 128 (omega (arith, h.sfits)), le-ltb 255 (255 - n) (omega arith)) (ap negsuc (omega (arith, h.sfits)))

-- ---- what the code computes
-- the byte of a number that fits, taken from its bits
pub byte_kept : (z : ℤ) → SFits w8 z → unsigned (to_z w8 (of_z w8 z)) ≡ unsigned z
byte_kept z h = ap unsigned (to_z-of_z w8 z h)

-- the byte of a number that fits
pub byte_fits : (z : ℤ) → SFits w8 z → unsigned z < 256
byte_fits (pos n) h = omega (arith, h.sfits)
byte_fits (negsuc n) h = omega arith
