-- Demand 3, proved along the list. Assumes nothing.
use mathlib.Core.Path.{◌≡◌, refl, sym, ap, ◌∙◌, subst}
use mathlib.Core.Bool.{Bool, true, false}
use mathlib.Core.List.{List, [], ◌∷◌, ◌++◌, append-nil}
use Prim.Native.Nat.{ℕ, suc, ◌+◌}
use native.Mathlib.Omega.{arith}
use lib.ListN.{length}
use Rattle.wire.specs.Choice.{pick}
use Rattle.line.specs.Receive.{busy}
use Rattle.line.specs.Line as line
use Rattle.line.specs.Line.{Emitted, refusal, inside_gives, gives, run, after, NoStart, Sendable}
use Rattle.line.proofs.Delivery.{at_start, delivered, after_kept, same_line}
use Rattle.line.specs.declared.Receiver.{Receiver}
use Rattle.session.specs.Memory.{remembered}
use Rattle.session.specs.declared.Session.{Session}
use Rattle.bridge.specs.declared.Context.{Context}
use Rattle.whole_line.specs.Listed.{SentItem, items, Made, on_line, line_of, wrapper_of, wrapped, AllWritten, Occasion, Ready, remembered_after, AllDiffer, Opening, openings, AllGive}
use Rattle.whole_line.specs.Claim.{Read, OneWay}
use Rattle.whole_line.proofs.Items.{one_short, one_seals, one_frames, AtTurn, at_start_lem, opened_item, one_gives, one_turns, one_same}

sendable : (g : Context) (ts : List SentItem) → Made g ts → Sendable (on_line g ts)
sendable g [] ok = tt
sendable g (t ∷ ts) ok = (one_short g t.item ok.0, ok.1, sendable g ts ok.2)

all_written : (g : Context) (ts : List SentItem) → Made g ts → AllWritten g (items ts)
all_written g [] ok = tt
all_written g (t ∷ ts) ok = (one_seals g t.item ok.0, one_frames g t.item ok.0, all_written g ts ok.2)

all_give : (g : Context) (at : ℕ → Occasion) (n : ℕ) (s : Session) (ns : List ℕ) (ts : List SentItem) → AtTurn g s ns
    → Made g ts → Ready g at n (items ts) → AllDiffer ns (items ts)
    → AllGive (items ts) (openings g at n s (line.frames_of (on_line g ts)))
unfolding openings line.frames_of
all_give g at n s ns [] turn ok fit differ = tt
all_give g at n s ns (t ∷ ts) turn ok fit differ = (
  one_gives g s ns turn (at n) t.item ok.0 fit.0 differ.0,
  all_give g at (suc n) (opened_item g s (at n) t.item).session (remembered_after ns t.item) ts
      (one_turns g s ns turn (at n) t.item ok.0 fit.0 differ.0) ok.2 fit.1 differ.1,
)

-- ---- the start byte
behind : (b : Bool) (e : Emitted) (x y : List Emitted) → pick b (e ∷ []) [] ++ x ≡ pick b (e ∷ []) [] ++ y → x ≡ y
behind true e x y h = cc
behind false e x y h = h

start : (r : Receiver) → run (0x7E ∷ []) r ≡ at_start r
unfolding run gives inside_gives
start r = append-nil _

past : (r : Receiver) (l : List ℕ) (fs : List Emitted) → run (0x7E ∷ l) r ≡ at_start r ++ fs
    → run l (after (0x7E ∷ []) r) ≡ fs
unfolding run gives inside_gives after
past r l fs e = behind (busy r.progress) _ (run l (after (0x7E ∷ []) r)) fs e

-- the refusal at the start byte is no frame
pub skip : (g : Context) (at : ℕ → Occasion) (n : ℕ) (s : Session) (b : Bool) (k : ℕ) (es : List Emitted)
    → openings g at n s (pick b (refusal 1 k ∷ []) [] ++ es) ≡ openings g at n s es
unfolding openings
skip g at n s true k es = refl
skip g at n s false k es = refl

module _ (g : Context) (t : SentItem) (ts : List SentItem) (r : Receiver) (store : length r.store ≡ 512) (made : Made g (t ∷ ts)) where
  -- what is handed out, for any receiver
  pub handed : run (line_of g (t ∷ ts)) r ≡ at_start r ++ line.frames_of (on_line g (t ∷ ts))
  handed = delivered r _ (on_line g ts) store (sendable g (t ∷ ts) made)

  reads : (at : ℕ → Occasion) → Ready g at 0 (items (t ∷ ts)) → AllDiffer (remembered g.session.memory) (items (t ∷ ts)) → Read g (t ∷ ts) r at
  unfolding line.line_of
  reads at fit differ =
      record {
        writes = all_written g (t ∷ ts) made;
        begins = refl;
        starts = start r;
        hands = past r _ (line.frames_of (on_line g (t ∷ ts))) handed;
        gives =
            subst (λ (es : List Opening). AllGive (items (t ∷ ts)) es)
            (sym (ap (openings g at 0 g.session) handed ∙ skip g at 0 g.session (busy r.progress) (r.progress.count + 1) (line.frames_of (on_line g (t ∷ ts)))))
            (all_give g at 0 g.session (remembered g.session.memory) (t ∷ ts) (at_start_lem g) made fit differ);
      }

-- ---- the second part
same_items : (g : Context) (ts us : List SentItem) → Made g ts → Made g us
    → line.frames_of (on_line g ts) ≡ line.frames_of (on_line g us) → items ts ≡ items us
unfolding line.frames_of
same_items g [] [] a b e = refl
same_items g [] (u ∷ us) a b e = absurd (let z : ◌≡◌ {A = ℕ} 0 1 = cc in omega arith)
same_items g (t ∷ ts) [] a b e = absurd (let z : ◌≡◌ {A = ℕ} 0 1 = cc in omega arith)
same_items g (t ∷ ts) (u ∷ us) a b e =
    let w : wrapper_of t.item ≡ wrapper_of u.item = cc in
    let p : wrapped g t.item ≡ wrapped g u.item = cc in
    let f : line.frames_of (on_line g ts) ≡ line.frames_of (on_line g us) = cc in
    let i : t.item ≡ u.item = one_same g t.item u.item a.0 b.0 w p in
    let is : items ts ≡ items us = same_items g ts us a.2 b.2 f in
    cc

-- THE CLAIM
pub no_line_two_ways : (g : Context) → OneWay g
no_line_two_ways g =
    record {
      read = λ t ts made before r store at fit differ. reads g t ts (after before r) (after_kept before r ∙ store) made at fit differ;
      made = λ ts us mt mu b c nb nc e.
          same_items g ts us mt mu (same_line (on_line g ts) (on_line g us) (sendable g ts mt) (sendable g us mu) b c nb nc e);
    }

-- in the demand's own words: lists that differ never make the same line
pub never_the_same : (g : Context) (ts us : List SentItem) → Made g ts → Made g us
    → (before before' : List ℕ) → NoStart before → NoStart before'
    → (items ts ≡ items us → ⊥) → before ++ line_of g ts ≡ before' ++ line_of g us → ⊥
never_the_same g ts us mt mu b c nb nc differ e = differ ((no_line_two_ways g).made ts us mt mu b c nb nc e)
