-- `write_presence` meets its contract. Assumes nothing.
use borrow.Author.Rules.{rules}
use borrow.Author.Tests.{lt-ltb}
use lib.ListN.{length}
use mathlib.Core.Path.{◌≡◌, sym, subst, ◌∙◌}
use mathlib.Core.List.{List}
use Prim.Native.Nat.{ℕ}
use Rattle.wire.specs.Writing.{Writes}
use Rattle.wire.proofs.Writers.{writes_good}
use Rattle.wire.proofs.Writing.{stores_same}
use Rattle.result.specs.Image.{presence_bad, presence_image}
use Rattle.result.proofs.Masks.{eight_masks}
use Rattle.result.proofs.write_presence.Goals as goal

pub returns-then-means_done : goal.returns-then-means_done
returns-then-means_done c =
    let r = c.args.res in
    let eight : length c.args.res.masks ≡ 8 = search rules in
    let a = c.two_masks.ensures in
    let b = c.two_masks-then-means_done.ensures in
    let d = c.two_masks-then-means_done-2.ensures in
    let f = c.two_masks-then-means_done-3.ensures in
    subst (λ (m : List ℕ). Writes (presence_bad (record { code = r.code; masks = m })) (presence_image (record { code = r.code; masks = m })) c.args.out.now c.write5.result c.write5.new.out)
    (eight_masks r.masks eight)
    (writes_good
    (simp (sym c.means_done.ensures ∙ c.if-means_done.true, lt-ltb _ _ a.1.0, lt-ltb _ _ a.1.1, lt-ltb _ _ b.1.0, lt-ltb _ _ b.1.1, lt-ltb _ _ d.1.0, lt-ltb _ _ d.1.1, lt-ltb _ _ f.1.0, lt-ltb _ _ f.1.1))
    (stores_same 0 (rw (c.head.ensures, a.0, b.0, d.0, f.0)) c.write5.ensures))
