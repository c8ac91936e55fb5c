-- Document 01, 'Cipher and session': the characteristic packet.
use Rattle.std.specs.Prelude.{ℕ, ◌+◌, Bool, true, not, ◌&&◌, List, [], ◌∷◌, ◌++◌, take, drop, eqb}
use Rattle.wire.specs.Choice.{pick}
use Rattle.wire.specs.Numbers.{num}
use Rattle.wire.specs.Rules.{Rule, ◌when◌}
use Rattle.wire.specs.Same.{same_bytes}
use Rattle.envelope.specs.Blocks.{padded, enveloped, not_least}

-- ---- sealing
-- the connection's validation key (4), control packet, zero padding
unfoldable pub characteristic_text : List ℕ → List ℕ → List ℕ
characteristic_text validation packet = padded (validation ++ packet)

-- packet nonce, user level, by its number, and the n blocks
unfoldable pub characteristic_image : List ℕ → List ℕ → List ℕ → ℕ → List ℕ → List ℕ → List ℕ
characteristic_image key pn sn level validation packet = enveloped key pn sn level (characteristic_text validation packet)

-- ---- opening
-- the packet's bytes by its own size field, which stands behind the validation key, the protocol and the command type
abbrev pub packet_size : List ℕ → ℕ
packet_size text = 5 + num 2 7 text

-- 18: the packet too short, or n not the least
abbrev pub packet_misfit : List ℕ → Bool
packet_misfit text = not_least text (4 + packet_size text)

unfoldable pub all_zero : List ℕ → Bool
all_zero [] = true
all_zero (b ∷ s) = eqb b 0 && all_zero s

-- rules of the n blocks deciphered
unfoldable pub characteristic_rules : List ℕ → List ℕ → List Rule
characteristic_rules validation text =
    (11 when not (same_bytes (take 4 text) validation))
    ∷ (18 when packet_misfit text)
    ∷ (13 when not (all_zero (drop (4 + packet_size text) text)))
    ∷ []

-- the control packet, none where 18 applies
unfoldable pub packet_in : List ℕ → List ℕ
packet_in text = pick (packet_misfit text) [] (take (packet_size text) (drop 4 text))
