-- `put_byte` meets its contract. Assumes nothing.
use mathlib.Core.Path.{◌≡◌, refl, sym, ap, ◌∙◌}
use native.Mathlib.Omega.{arith}
use lib.ListN.{length, length-set}
use Rattle.frame.specs.Image.{escape_byte}
use lib.Bits.{bit_xor}
use native.Mathlib.Numerals.{add-one}
use mathlib.Core.List.{[], ◌∷◌}
use Rattle.frame.proofs.Escape.{escape_mark, escape_plain}
use Rattle.frame.proofs.put_byte.Goals as goal

pub bounds-out-at : goal.bounds-out-at
bounds-out-at c =
    let a = c.args in
    let p : escape_byte a.b ≡ 0x5C ∷ bit_xor a.b 0x40 ∷ [] = escape_mark _ (sym c.is_mark.ensures ∙ c.if-is_mark.true) in
    let e : length (escape_byte a.b) ≡ 2 = ap length p in
    omega arith

pub bounds-out-next : goal.bounds-out-next
bounds-out-next c =
    let a = c.args in
    let p : escape_byte a.b ≡ 0x5C ∷ bit_xor a.b 0x40 ∷ [] = escape_mark _ (sym c.is_mark.ensures ∙ c.if-is_mark.true) in
    let e : length (escape_byte a.b) ≡ 2 = ap length p in
    simp length-set (omega arith)

pub returns-then-is_mark : goal.returns-then-is_mark
returns-then-is_mark c =
    let a = c.args in
    let p : escape_byte a.b ≡ 0x5C ∷ bit_xor a.b 0x40 ∷ [] = escape_mark _ (sym c.is_mark.ensures ∙ c.if-is_mark.true) in
    let e : length (escape_byte a.b) ≡ 2 = ap length p in
    (omega arith, rw (p, add-one) refl)

pub bounds-out-at-2 : goal.bounds-out-at-2
bounds-out-at-2 c =
    let a = c.args in
    let p : escape_byte a.b ≡ a.b ∷ [] = escape_plain _ (sym c.is_mark.ensures ∙ c.if-is_mark.false) in
    let e : length (escape_byte a.b) ≡ 1 = ap length p in
    omega arith

pub returns : goal.returns
returns c =
    let a = c.args in
    let p : escape_byte a.b ≡ a.b ∷ [] = escape_plain _ (sym c.is_mark.ensures ∙ c.if-is_mark.false) in
    let e : length (escape_byte a.b) ≡ 1 = ap length p in
    (omega arith, rw p refl)
