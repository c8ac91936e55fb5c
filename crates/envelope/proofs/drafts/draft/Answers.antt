-- `envelope::drafts::draft` meets its contract. Assumes nothing.
use mathlib.Core.Path.{◌≡◌, ◌∙◌, sym, ap}
use mathlib.Core.List.{List, ◌++◌}
use Prim.Native.Nat.{ℕ, ◌+◌, ◌-◌, ◌*◌}
use native.Mathlib.Omega.{arith}
use lib.ListN.{length, replicate, length-append}
use Rattle.std.specs.Prelude.{Ok, Option, is_some}
use Rattle.wire.proofs.Choice.{not_some}
use Rattle.aes.specs.Ctr.{blocks_for}
use Rattle.session.specs.Keys.{key_bytes}
use Rattle.envelope.proofs.Drafted.{draft_short, draft_keyless, draft_full}
use Rattle.envelope.proofs.drafts.draft.Goals as goal

pub returns-then-room-len : goal.returns-then-room-len
returns-then-room-len c =
    let a = c.args in
    draft_short a.key a.id (a.head.now ++ a.body.now) a.room (omega (arith, length-append a.head.now a.body.now))

pub returns-in_default : goal.returns-in_default
returns-in_default c =
    let a = c.args in
    draft_keyless a.key a.id (a.head.now ++ a.body.now) a.room (omega (arith, length-append a.head.now a.body.now)) (not_some a.key c.in_default.not-Some)

pub returns : goal.returns
returns c =
    let a = c.args in
    let h = a.head.now in
    let b = a.body.now in
    let l : length (h ++ b) ≡ length h + length b = length-append h b in
    let n : 16 * c.blocks_for-len.result ≡ 16 * blocks_for (length (h ++ b)) = omega (arith, l) in
    let t : c.with_zeros-text.result ≡ (h ++ b) ++ replicate (496 - length (h ++ b)) 0 = c.with_zeros-text.ensures ∙ (λ i. (h ++ b) ++ replicate (496 - sym l i) 0) in
    let k : c.in-Some.bytes ≡ key_bytes a.key = sym (ap key_bytes c.in-Some.is) in
    (λ i. Ok (record { key = k i; id = a.id; len = n i; text = t i }))
    ∙ draft_full a.key a.id (h ++ b) a.room (omega (arith, l)) (ap (λ (o : Option (List ℕ)). is_some o) c.in-Some.is)
