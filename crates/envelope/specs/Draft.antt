-- What a sealer hands to its cipher, and what stands in front of the blocks. The sealers' promise is `Seals` (Blocks); proofs/Drafted.antt puts them together.
use Rattle.std.specs.Prelude.{ℕ, ◌+◌, ◌-◌, ◌*◌, Bool, not, List, [], ◌∷◌, ◌++◌, length, replicate, ltb, Option, is_some, Result, Ok}
use Rattle.wire.specs.Rules.{Rule, ◌when◌, judge}
use Rattle.wire.specs.Refusals.{refusing}
use Rattle.wire.specs.declared.refusals.Refusal.{Refusal}
use Rattle.aes.specs.Ctr.{blocks_for}
use Rattle.session.specs.Keys.{key_bytes}
use Rattle.envelope.specs.Blocks.{nonce_bytes}
use Rattle.envelope.specs.declared.Draft.{Draft}

-- a text, and zeros behind it up to the longest: those of its last block are the padding
abbrev pub full_draft : List ℕ → ℕ → List ℕ → Draft
full_draft key id s = record { key = key; id = id; len = 16 * blocks_for (length s); text = s ++ replicate (496 - length s) 0 }

-- the sealer's rules by lengths: 17 for a size outside the limits, then 25, then 10
abbrev pub draft_rules : Option (List ℕ) → Bool → List ℕ → ℕ → List Rule
draft_rules key bad s room = (17 when bad) ∷ (25 when ltb room (4 + 16 * blocks_for (length s))) ∷ (10 when not (is_some key)) ∷ []

unfoldable pub draft_of : Option (List ℕ) → Bool → ℕ → List ℕ → ℕ → Result Draft Refusal
draft_of key bad id s room = judge refusing (draft_rules key bad s room) (Ok (full_draft (key_bytes key) id s))

-- packet nonce, key ID or user level
abbrev pub front_bytes : List ℕ → ℕ → List ℕ
front_bytes pn id = nonce_bytes pn ++ (id ∷ [])
