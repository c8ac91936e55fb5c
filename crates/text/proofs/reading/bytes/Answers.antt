-- `bytes` meets its contract. Assumes nothing.
use Rattle.std.proofs.Common.{rules, ap, ℕ, suc, eqb, ◌≡◌, ◌++◌, ◌∷◌, [], ◌-◌, length, length-append, arith}
use Rattle.std.proofs.lemmas.Iterator.Splits.{YieldsList-from_slice_split}
use Rattle.std.proofs.lemmas.Iterator.Consumers.{YieldsList-at}
use Rattle.text.specs.Reading.{count, repeated}
use Rattle.text.proofs.Puts.{leaves_less, leaves_none, puts_same}
use Rattle.text.proofs.Fields.{piece_turn, piece_end, fields_at, fields_past}
use Rattle.text.proofs.reading.bytes.Goals as goal

pub loop-piece-preserved : goal.loop-piece-preserved
loop-piece-preserved c =
    let s = c.split-piece-items.ensures in
    let l = c.loop-piece in
    let n = length l.yielded in
    let m = suc (count 43 c.args.s.now) in
    let turn =
    piece_turn l.yielded _ l.yielded_by 43 c.args.s.now _ _ c.in-Some.piece c.in-Some.is c.next.ensures.steps
    (YieldsList-at c.into_iter-piece-iterator.ensures.into_iter_gives
    (YieldsList-from_slice_split _ (λ (b : ℕ). eqb b 43) c.args.s.now s.rest s.done s.closure (λ x r q k. search rules))) in
    let k = length (l.yielded ++ (c.in-Some.piece ∷ [])) in
    let e : k ≡ suc n = omega (arith, length-append l.yielded (c.in-Some.piece ∷ [])) in (
      search rules,
      search rules,
      leaves_less l.invariant.2 (fields_at n k (m - n) (m - k) _ e (omega (arith, turn.1))) (puts_same c.repeated-behind.ensures (ap repeated turn.0)),
    )

pub returns : goal.returns
returns c =
    let s = c.split-piece-items.ensures in
    let l = c.loop-piece in
    let end =
    piece_end l.yielded _ l.yielded_by 43 c.args.s.now _ _ c.in-None.is c.next.ensures.steps
    (YieldsList-at c.into_iter-piece-iterator.ensures.into_iter_gives
    (YieldsList-from_slice_split _ (λ (b : ℕ). eqb b 43) c.args.s.now s.rest s.done s.closure (λ x r q k. search rules))) in
    leaves_none l.invariant.2 (fields_past (length l.yielded) (suc (count 43 c.args.s.now) - length l.yielded) _ (omega (arith, end)))
