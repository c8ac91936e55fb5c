-- How the decoder ends: a law for each way. Assumes nothing.
use mathlib.Core.Path.{◌≡◌, refl, sym, ap, ◌∙◌}
use mathlib.Core.List.{List}
use mathlib.Core.Bool.{Bool, true, false, ◌||◌}
use Prim.Native.Nat.{ℕ, suc, ◌+◌, ◌≤◌, ◌<◌}
use native.Mathlib.Omega.{arith}
use lib.ListN.{length}
use lib.Dec.{ltb}
use borrow.Author.Tests.{lt-ltb, le-ltb, ltb-false}
use Rattle.std.specs.Prelude.{Ok, Err}
use Rattle.wire.specs.Rules.{first_broken}
use Rattle.wire.specs.Refusals.{number_of, refusal_of, refusing}
use Rattle.wire.specs.declared.refusals.Refusal.TheVariants.{BadMessageData, NoRoom}
use Rattle.wire.proofs.Choice.{or_fails, true_false}
use Rattle.wire.proofs.Writing.{sets_placed}
use Rattle.capture.specs.Capture.{decoded}
use Rattle.capture.specs.Answer.{entries_of, payloads_of, capture_rules, Decodes}
use Rattle.capture.specs.Looking.{PutsEvent, CountsOf}
use Rattle.capture.specs.declared.Counts.{Counts}

module _ (capture list buffer : List ℕ) where
  refused : (n : ℕ) → number_of (refusal_of (suc n)) ≡ suc n → first_broken (capture_rules capture list buffer) ≡ suc n
      → Decodes capture list buffer (refusing (suc n)) list buffer
  refused n k e = record { number = rw (e, k); answers = rw e; lists = rw e; stores = rw e }

  -- 17
  pub decodes_long : 65536 < length capture → Decodes capture list buffer (Err BadMessageData) list buffer
  decodes_long h = refused 16 refl (rw (lt-ltb _ _ h))

  module _ (short : length capture ≤ 65536) where
    as_counted : (room n : ℕ) → ltb room (0 + n) ≡ ltb room n
    as_counted room n = ap (ltb room) (let e : 0 + n ≡ n = omega arith in e)

    -- 25
    shorter : (x y : Bool) → ltb (length list) (length (entries_of capture)) ≡ x → ltb (length buffer) (length (payloads_of capture)) ≡ y → (x || y) ≡ true
        → first_broken (capture_rules capture list buffer) ≡ 25
    shorter true y e f t = rw (le-ltb _ _ short, as_counted (length list) (length (entries_of capture)), e)
    shorter false true e f t = rw (le-ltb _ _ short, as_counted (length list) (length (entries_of capture)), e, as_counted (length buffer) (length (payloads_of capture)), f)
    shorter false false e f t = true_false (sym t)

    pub decodes_short : {r : Bool} → r ≡ (ltb (length list) (length (entries_of capture)) || ltb (length buffer) (length (payloads_of capture))) → r ≡ true
        → Decodes capture list buffer (Err NoRoom) list buffer
    decodes_short e t = refused 24 refl (shorter _ _ refl refl (sym e ∙ t))

    -- there is room
    module _ {r : Bool} (e : r ≡ (ltb (length list) (length (entries_of capture)) || ltb (length buffer) (length (payloads_of capture)))) (t : r ≡ false) where
      pub rooms : (length (entries_of capture) ≤ length list) × (length (payloads_of capture) ≤ length buffer)
      rooms =
          let o = or_fails (ltb (length list) (length (entries_of capture))) (ltb (length buffer) (length (payloads_of capture))) (sym e ∙ t) in
          (ltb-false _ _ o.0, ltb-false _ _ o.1)

      none_broken : first_broken (capture_rules capture list buffer) ≡ 0
      none_broken = rw (le-ltb _ _ short, le-ltb (length list) (0 + length (entries_of capture)) (omega (arith, rooms.0)), le-ltb (length buffer) (0 + length (payloads_of capture)) (omega (arith, rooms.1)))

      pub decodes_all : {c : Counts} {list' buffer' : List ℕ} → CountsOf capture c → PutsEvent (decoded capture) list 0 buffer 0 list' buffer'
          → Decodes capture list buffer (Ok c) list' buffer'
      decodes_all n p =
          record {
            number = rw (none_broken, n.entries, n.bytes);
            answers = rw (none_broken, n.entries, n.bytes);
            lists = rw none_broken (p.lists ∙ sets_placed 0 (entries_of capture) list (omega (arith, rooms.0)));
            stores = rw none_broken (p.stores ∙ sets_placed 0 (payloads_of capture) buffer (omega (arith, rooms.1)));
          }
