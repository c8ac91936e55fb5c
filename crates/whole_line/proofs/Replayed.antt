-- A packet nonce used again: while it is remembered its message gets 28, behind eight others it comes through. Assumes nothing.
use mathlib.Core.Path.{◌≡◌, refl, sym, ap, ◌∙◌}
use mathlib.Core.Bool.{true}
use mathlib.Core.List.{List, [], ◌∷◌, ◌++◌}
use Prim.Native.Nat.{ℕ, suc, ◌+◌}
use native.Mathlib.Omega.{arith}
use lib.ListN.{length, replicate}
use Rattle.wire.specs.Rules.{first_broken, among, verdict}
use Rattle.line.specs.Receive.{busy, fresh_receiver}
use Rattle.line.specs.Line as line
use Rattle.line.specs.Line.{run, after}
use Rattle.line.specs.declared.Receiver.{Receiver}
use Rattle.access.specs.declared.Mode.TheVariants.{Normal}
use Rattle.session.specs.Memory.{limited, remembered}
use Rattle.session.specs.Session.{session_there, valid_at}
use Rattle.session.specs.declared.Session.{Session}
use Rattle.envelope.specs.Blocks.{nonce_number}
use Rattle.envelope.proofs.Unsealed.{sealed_blocks}
use Rattle.bridge.specs.Opener.{admin_key, uart_entry_rules, uart_text}
use Rattle.bridge.specs.Opening.{refused_answer, text_answer, sealed_answer}
use Rattle.bridge.proofs.Opening.{sealed_opened_lem}
use Rattle.bridge.specs.declared.Context.{Context}
use Rattle.bridge.specs.Content.{Answer}
use Rattle.bridge.specs.declared.Opened.{Opened}
use Rattle.whole_line.specs.Listed.{Item, sealed, SentItem, items, PermittedItem, Made, wrapped, line_of, on_line, Occasion, Fit, Ready, remembered_after, AllDiffer, during, Opening, openings}
use Rattle.whole_line.specs.Claim.{Read}
use Rattle.whole_line.proofs.Items.{AtTurn, asks, at_start_lem, opened_item, one_turns}
use Rattle.whole_line.proofs.OneWay.{no_line_two_ways, handed, skip}
use Rattle.whole_line.proofs.Permits.{context_in, permitted_item}
use Rattle.whole_line.proofs.Example.{switch}
use Rattle.session.specs.Keys.{key_bytes}

-- ---- the last message of a list has a packet nonce that is remembered at its turn
abbrev remembered_behind : List ℕ → List Item → List ℕ
remembered_behind ns [] = ns
remembered_behind ns (i ∷ is) = remembered_behind (remembered_after ns i) is

-- the answer to the last opening, or another where there is none
abbrev last_answer : Answer → List Opening → Answer
last_answer a [] = a
last_answer a (o ∷ os) = last_answer o.answer os

module _ (g : Context) (pn m noise : List ℕ) (ok : PermittedItem g (sealed pn m)) (at : ℕ → Occasion) (fits : (n : ℕ) → Fit g (at n) (sealed pn m)) where
  abbrev p : List ℕ
  p = wrapped g (sealed pn m)

  abbrev last : SentItem
  last = record { item = sealed pn m; noise = noise }

  module _ (s : Session) (ns : List ℕ) (turn : AtTurn g s ns) (again : among (nonce_number pn) ns ≡ true) (n : ℕ) where
    abbrev here : Context
    here = during g s (at n).time

    stops : first_broken (uart_entry_rules here (length (at n).work) p) ≡ 28
    stops = asks g s (at n).time ns pn m turn ok.0 ok.1 (fits n).0 (length (at n).work) (fits n).1 ∙ rw again

    one_again : (opened_item g s (at n) (sealed pn m)).answer ≡ refused_answer 28
    unfolding sealed_answer
    one_again =
        ap (λ (r : Opened). r.answer) (sym (sealed_opened_lem here (length (at n).work) p))
        ∙ ap (λ (k : ℕ). verdict refused_answer k (text_answer here (uart_text here p))) stops

  refused_last : (ts : List SentItem) (n : ℕ) (s : Session) (ns : List ℕ) → AtTurn g s ns → Made g ts → Ready g at n (items ts) → AllDiffer ns (items ts)
      → among (nonce_number pn) (remembered_behind ns (items ts)) ≡ true → (a : Answer)
      → last_answer a (openings g at n s (line.frames_of (on_line g (ts ++ (last ∷ []))))) ≡ refused_answer 28
  unfolding openings line.frames_of
  refused_last [] n s ns turn made fit differ again a = one_again s ns turn again n
  refused_last (t ∷ ts) n s ns turn made fit differ again a =
      refused_last ts (suc n) (opened_item g s (at n) t.item).session (remembered_after ns t.item)
      (one_turns g s ns turn (at n) t.item made.0 fit.0 differ.0) made.2 fit.1 differ.1 again _

  -- the list with it
  made_with : (ts : List SentItem) → Made g ts → line.NoStart noise → Made g (ts ++ (last ∷ []))
  made_with [] made quiet = (ok, quiet, tt)
  made_with (t ∷ ts) made quiet = (made.0, made.1, made_with ts made.2 quiet)

  -- on a line, over any receiver
  refused_on_line : line.NoStart noise → (t : SentItem) (ts : List SentItem) → Made g (t ∷ ts) → Ready g at 0 (items (t ∷ ts))
      → AllDiffer (remembered g.session.memory) (items (t ∷ ts)) → among (nonce_number pn) (remembered_behind (remembered g.session.memory) (items (t ∷ ts))) ≡ true
      → (r : Receiver) → length r.store ≡ 512 → (a : Answer)
      → last_answer a (openings g at 0 g.session (run (line_of g (t ∷ ts ++ (last ∷ []))) r)) ≡ refused_answer 28
  refused_on_line quiet t ts made fit differ again r store a =
      ap (λ (es : List line.Emitted). last_answer a (openings g at 0 g.session es)) (handed g t (ts ++ (last ∷ [])) r store (made_with (t ∷ ts) made quiet))
      ∙ ap (last_answer a) (skip g at 0 g.session (busy r.progress) (r.progress.count + 1) (line.frames_of (on_line g (t ∷ ts ++ (last ∷ [])))))
      ∙ refused_last (t ∷ ts) 0 g.session (remembered g.session.memory) (at_start_lem g) made fit differ again a

-- ---- nine and ten sealed messages, the last with the packet nonce of the first
abbrev g : Context
g = context_in Normal true

abbrev pn : ℕ → List ℕ
pn n = n ∷ 8 ∷ 9 ∷ []

abbrev sent : ℕ → SentItem
sent n = record { item = sealed (pn n) switch; noise = [] }

abbrev sent_all : List ℕ → List SentItem
sent_all [] = []
sent_all (n ∷ ns) = sent n ∷ sent_all ns

-- a work buffer of one block
abbrev at : ℕ → Occasion
at n = record { time = record { 0 = 159 }; work = replicate 16 0xDD }

permitted : (n : ℕ) → PermittedItem g (sealed (pn n) switch)
unfolding session_there
permitted n = permitted_item g (sealed (pn n) switch) refl

fit : (n k : ℕ) → Fit g (at k) (sealed (pn n) switch)
unfolding valid_at session_there
fit n k = (refl, omega (arith, sealed_blocks (key_bytes (admin_key g)) (pn n) g.session.nonce switch refl))

made : (ns : List ℕ) → Made g (sent_all ns)
made [] = tt
made (n ∷ ns) = (permitted n, tt, made ns)

ready : (ns : List ℕ) (k : ℕ) → Ready g at k (items (sent_all ns))
ready [] k = tt
ready (n ∷ ns) k = (fit n k, ready ns (suc k))

-- the second to the eighth
abbrev others : List ℕ
others = 2 ∷ 3 ∷ 4 ∷ 5 ∷ 6 ∷ 7 ∷ 8 ∷ []

-- the ninth is refused: the eight before it are remembered
pub ninth : (a : Answer) → last_answer a (openings g at 0 g.session (run (line_of g (sent_all (1 ∷ others ++ (1 ∷ [])))) fresh_receiver)) ≡ refused_answer 28
unfolding remembered limited
ninth =
    refused_on_line g (pn 1) switch [] (permitted 1) at (fit 1) tt (sent 1) (sent_all others) (made (1 ∷ others)) (ready (1 ∷ others) 0)
    (refl, (refl, (refl, (refl, (refl, (refl, (refl, (refl, tt)))))))) refl fresh_receiver refl

-- the tenth is accepted, as all before it: the claim holds for the ten
pub tenth : Read g (sent_all (1 ∷ others ++ (9 ∷ 1 ∷ []))) fresh_receiver at
unfolding remembered limited after
tenth =
    (no_line_two_ways g).read (sent 1) (sent_all (others ++ (9 ∷ 1 ∷ []))) (made (1 ∷ others ++ (9 ∷ 1 ∷ []))) [] fresh_receiver refl at
    (ready (1 ∷ others ++ (9 ∷ 1 ∷ [])) 0) (refl, (refl, (refl, (refl, (refl, (refl, (refl, (refl, (refl, (refl, tt))))))))))
