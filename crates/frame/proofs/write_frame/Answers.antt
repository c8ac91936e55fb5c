-- `write_frame` meets its contract. Assumes nothing.
use mathlib.Core.Path.{◌≡◌, sym, ap, ap₂, ◌∙◌}
use mathlib.Core.List.{List}
use mathlib.Core.Bool.{false}
use native.Mathlib.Omega.{arith}
use Prim.Native.Nat.{ℕ}
use lib.ListN.{length}
use Rattle.wire.proofs.Writing.{stores_past, stores_same}
use Rattle.frame.specs.Image.{image}
use Rattle.frame.specs.Writer.{bad_frame, sent}
use Rattle.frame.proofs.Escape.{good_length, sent_image}
use Rattle.frame.proofs.write_frame.Goals as goal

pub header-head-requires : goal.header-head-requires
header-head-requires c = good_length _ _ (sym c.bad_frame.ensures ∙ c.if-bad_frame.false)

pub send-requires : goal.send-requires
send-requires c =
    let l = good_length _ _ (sym c.bad_frame.ensures ∙ c.if-bad_frame.false) in
    omega (arith, ap length c.header-head.ensures, ap length c.trailer-tail.ensures, l)

pub returns : goal.returns
returns c =
    let a = c.args in
    let p = a.payload.now in
    let e : bad_frame a.wrapper (length p) ≡ false = sym c.bad_frame.ensures ∙ c.if-bad_frame.false in
    let i : sent c.header-head.result p c.trailer-tail.result ≡ image a.wrapper p =
    ap₂ (λ (x y : List ℕ). sent x p y) c.header-head.ensures c.trailer-tail.ensures ∙ sent_image a.wrapper p in
    stores_past 0 (image a.wrapper p) a.out.now 17 (bad_frame a.wrapper (length p)) e (stores_same 0 i c.send.ensures)
