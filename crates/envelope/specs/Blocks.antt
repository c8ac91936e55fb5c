-- Document 01, 'Cipher and session': what an encrypted wrapper payload and a characteristic packet have in common.
use Rattle.std.specs.Prelude.{ℕ, ◌+◌, ◌-◌, ◌*◌, ◌/◌, min, Bool, not, ◌||◌, List, [], ◌∷◌, ◌++◌, length, get_or, take, drop, replicate, eqb, ltb, Option, is_some, Result}
use Rattle.wire.specs.Numbers.{num}
use Rattle.wire.specs.Rules.{Rule, ◌when◌, among}
use Rattle.wire.specs.Writing.{Stores, no_room}
use Rattle.wire.specs.declared.refusals.Refusal.{Refusal}
use Rattle.aes.specs.Ctr.{blocks_for, ctr_of}
use Rattle.session.specs.Memory.{remembered}
use Rattle.session.specs.declared.NonceMemory.{NonceMemory}

-- ---- sealing
-- how many bytes of padding: to the least number of blocks that holds the bytes
abbrev pub padding_for : List ℕ → ℕ
padding_for s = 16 * blocks_for (length s) - length s

-- ours is zero
abbrev pub padded : List ℕ → List ℕ
padded s = s ++ replicate (padding_for s) 0

-- packet nonce, key ID or user level, n blocks. The counter is no parameter: it starts at 0 in `ctr_of`, for each packet
unfoldable pub enveloped : List ℕ → List ℕ → List ℕ → ℕ → List ℕ → List ℕ
enveloped key pn sn id text = pn ++ (id ∷ ctr_of key pn sn text)

abbrev pub outside : ℕ → ℕ → ℕ → Bool
outside least most n = ltb n least || ltb most n

-- 'Room': 17 for a size outside the limits, then 25, then 10
abbrev pub sealer_rules : Option (List ℕ) → Bool → List ℕ → List ℕ → List Rule
sealer_rules key bad image room = (17 when bad) ∷ no_room 0 image room ∷ (10 when not (is_some key)) ∷ []

abbrev pub Seals : Option (List ℕ) → Bool → List ℕ → List ℕ → Result ℕ Refusal → List ℕ → Type 0
Seals key bad image room answer after = Stores (sealer_rules key bad image room) 0 image room answer after

-- ---- opening
-- n: how many blocks a payload holds
abbrev pub blocks_in : List ℕ → ℕ
blocks_in payload = (length payload - 4) / 16

-- the n blocks deciphered
unfoldable pub deciphered : List ℕ → List ℕ → List ℕ → List ℕ
deciphered key sn payload = ctr_of key (take 3 payload) sn (drop 4 payload)

-- 7: length not 4 + 16n, n 1 to 31
unfoldable pub wrong_length : List ℕ → Bool
wrong_length payload = outside 1 31 (blocks_in payload) || not (eqb (length payload) (4 + 16 * blocks_in payload))

abbrev pub length_rule : List ℕ → Rule
length_rule payload = 7 when wrong_length payload

-- 25: opening needs a work buffer of 16n bytes
abbrev pub room_rule : List ℕ → ℕ → Rule
room_rule payload room = 25 when ltb room (16 * blocks_in payload)

-- the packet nonce, which stands in front: its three bytes, and their number
abbrev pub nonce_bytes : List ℕ → List ℕ
nonce_bytes payload = get_or payload 0 0 ∷ get_or payload 1 0 ∷ get_or payload 2 0 ∷ []

abbrev pub nonce_number : List ℕ → ℕ
nonce_number payload = num 3 0 payload

-- document 02 §6: a packet nonce used again is one of those remembered
abbrev pub used_again : NonceMemory → List ℕ → Bool
used_again memory payload = among (nonce_number payload) (remembered memory)

-- 28: a packet nonce used again
abbrev pub nonce_rule : NonceMemory → List ℕ → Rule
nonce_rule memory payload = 28 when used_again memory payload

-- the blocks are not the least number that holds so many bytes
unfoldable pub not_least : List ℕ → ℕ → Bool
not_least text size = not (eqb (length text) (16 * blocks_for size))

-- the first n bytes zero, or as many as there are
abbrev pub cleared : ℕ → List ℕ → List ℕ
cleared n s = replicate (min n (length s)) 0 ++ drop n s
