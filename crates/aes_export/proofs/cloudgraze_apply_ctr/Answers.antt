-- `cloudgraze_apply_ctr` meets its contract: the bytes fill the room. Assumes nothing.
use mathlib.Core.Path.{◌≡◌, ◌∙◌}
use mathlib.Core.List.{append-nil}
use Prim.Native.Nat.{◌≤◌}
use native.Mathlib.Omega.{arith}
use lib.ListN.{length, drop_of_length-le}
use borrow.Author.Rules.{rules}
use Rattle.aes.proofs.KeyStream.{ctr_stored}
use Rattle.aes_export.proofs.cloudgraze_apply_ctr.Goals as goal

pub returns : goal.returns
returns c =
    let a = c.args in
    let s : length a.src.now ≡ 496 = search rules in
    let o : length a.out.now ≡ 496 = search rules in
    let h : length a.out.now ≤ length a.src.now = omega arith in
    (ctr_stored a.key.now a.packet_nonce.now a.session_nonce.now a.src.now a.out.now (omega arith) c.apply_ctr.ensures).1
    ∙ rw (drop_of_length-le a.out.now h) (append-nil _)
