-- Permitted messages at the limits, by computing, and the claim for a list of them. Of 2 bytes there is a plain message only, get MAC: the shortest that
-- may be encrypted is a heartbeat, of 4. Assumes nothing.
use mathlib.Core.Path.{◌≡◌, refl}
use mathlib.Core.Bool.{true}
use mathlib.Core.List.{List, [], ◌∷◌}
use Prim.Native.Nat.{ℕ}
use native.Mathlib.Omega.{arith}
use lib.ListN.{length, replicate}
use Rattle.line.specs.Receive.{fresh_receiver}
use Rattle.line.specs.Line.{after}
use Rattle.access.specs.declared.Mode.TheVariants.{Normal}
use Rattle.session.specs.Memory.{limited, remembered}
use Rattle.session.specs.Session.{session_there, valid_at}
use Rattle.envelope.proofs.Unsealed.{sealed_blocks}
use Rattle.bridge.specs.Opener.{admin_key}
use Rattle.bridge.specs.declared.Context.{Context}
use Rattle.whole_line.specs.Listed.{Item, plain, sealed, item_message, SentItem, items, Made, Occasion, Ready, AllDiffer}
use Rattle.whole_line.specs.Claim.{Read}
use Rattle.whole_line.proofs.Permits.{context_in, permitted_item}
use Rattle.whole_line.proofs.OneWay.{no_line_two_ways}
use Rattle.session.specs.Keys.{key_bytes}

abbrev g : Context
g = context_in Normal true

abbrev pn : ℕ → List ℕ
pn n = 7 ∷ 8 ∷ n ∷ []

-- a hub data reply with so many bytes of data
abbrev reply : ℕ → List ℕ
reply n = 11 ∷ 0 ∷ 1 ∷ 1 ∷ replicate n 0x7E

abbrev sent : Item → SentItem
sent i = record { item = i; noise = [] }

abbrev pub limits : List SentItem
limits = sent (plain (4 ∷ 0 ∷ [])) ∷ sent (plain (reply 503)) ∷ sent (sealed (pn 1) (2 ∷ 0 ∷ 44 ∷ 1 ∷ [])) ∷ sent (sealed (pn 2) (reply 486)) ∷ []

abbrev lengths : List Item → List ℕ
lengths [] = []
lengths (i ∷ is) = length (item_message i) ∷ lengths is

pub limit_lengths : lengths (items limits) ≡ 2 ∷ 507 ∷ 4 ∷ 490 ∷ []
limit_lengths = refl

pub made : Made g limits
unfolding session_there
made = (
  permitted_item g (plain (4 ∷ 0 ∷ [])) refl,
  tt,
  (
    permitted_item g (plain (reply 503)) refl,
    tt,
    (
      permitted_item g (sealed (pn 1) (2 ∷ 0 ∷ 44 ∷ 1 ∷ [])) refl,
      tt,
      (permitted_item g (sealed (pn 2) (reply 486)) refl, tt, tt),
    ),
  ),
)

-- a work buffer of 31 blocks
abbrev at : ℕ → Occasion
at n = record { time = record { 0 = 159 }; work = replicate 496 0xDD }

ready : Ready g at 0 (items limits)
unfolding valid_at session_there
ready = (
  tt,
  (
    tt,
    (
      (refl, omega (arith, sealed_blocks (key_bytes (admin_key g)) (pn 1) g.session.nonce (2 ∷ 0 ∷ 44 ∷ 1 ∷ []) refl)),
      ((refl, omega (arith, sealed_blocks (key_bytes (admin_key g)) (pn 2) g.session.nonce (reply 486) refl)), tt),
    ),
  ),
)

differ : AllDiffer (remembered g.session.memory) (items limits)
unfolding remembered limited
differ = (tt, (tt, (refl, (refl, tt))))

-- the claim for them
pub reads : Read g limits (after [] fresh_receiver) at
reads = (no_line_two_ways g).read (sent (plain (4 ∷ 0 ∷ []))) _ made [] fresh_receiver refl at ready differ
