-- `copy_sixteen` meets its contract. Assumes nothing.
use mathlib.Core.Path.{◌≡◌, sym, ap, ◌∙◌}
use mathlib.Core.List.{List, ◌++◌, append_assoc}
use Prim.Native.Nat.{ℕ, ◌+◌, ◌-◌, ◌≤◌}
use native.Mathlib.Omega.{arith}
use borrow.Rule.Slice.PartMut.{post_of, Post-is}
use lib.ListN.{length, take, drop, length-drop}
use lib.Seq.{length-take-le, sets, sets-eq}
use Rattle.capture.proofs.ahead.copy_sixteen.Goals as goal

put_sixteen : (from to : ℕ) (s l : List ℕ) → from + 16 ≤ length s → to + 16 ≤ length l
    → take to l ++ (take (from + 16 - from) (drop from s) ++ post_of to (to + 16 - to) l) ≡ sets l to (take 16 (drop from s))
put_sixteen from to s l h k =
    let v : List ℕ = take 16 (drop from s) in
    let n : from + 16 - from ≡ 16 = omega arith in
    let t : length v ≡ 16 = length-take-le 16 (drop from s) (omega (arith, length-drop from s)) in
    rw n
    (sym (sets-eq v l to (omega arith) ∙ append_assoc (take to l) v (drop (to + length v) l)
    ∙ ap (λ (r : List ℕ). take to l ++ (v ++ r)) (ap (λ (m : ℕ). drop (to + m) l) t ∙ sym (Post-is to (to + 16) l (omega arith)))))

pub returns : goal.returns
returns c =
    let a = c.args in
    rw c.copy_from_slice.ensures.after (put_sixteen a.from a.to a.s.now a.store.now c.requires.0 c.requires.1)
