-- Document 01, 'Cipher and session': the encrypted wrapper payload. Our padding is zero; a reader accepts any (document 02 §2).
use Rattle.std.specs.Prelude.{ℕ, ◌+◌, Bool, not, ◌||◌, List, [], ◌∷◌, ◌++◌, length, take, drop, eqb, ltb}
use Rattle.wire.specs.Choice.{pick}
use Rattle.wire.specs.Numbers.{num, le}
use Rattle.wire.specs.Rules.{Rule, ◌when◌}
use Rattle.envelope.specs.Blocks.{padded, enveloped, not_least}

-- ---- sealing
-- CAFEBABE (4), message size (2), message
abbrev pub unpadded : List ℕ → List ℕ
unpadded m = le 4 0xCAFEBABE ++ (le 2 (length m) ++ m)

-- and zero padding
unfoldable pub plain_text : List ℕ → List ℕ
plain_text m = padded (unpadded m)

-- packet nonce, key ID 0, meaning admin, and the n blocks
unfoldable pub sealed_image : List ℕ → List ℕ → List ℕ → List ℕ → List ℕ
sealed_image key pn sn m = enveloped key pn sn 0 (plain_text m)

-- as another writer may seal it, with padding of its own
unfoldable pub sealed_with : List ℕ → List ℕ → List ℕ → List ℕ → List ℕ → List ℕ
sealed_with key pn sn m padding = enveloped key pn sn 0 (unpadded m ++ padding)

-- ---- opening
abbrev pub message_size : List ℕ → ℕ
message_size text = num 2 4 text

-- 12: message size below 2, or n not the least
abbrev pub message_misfit : List ℕ → Bool
message_misfit text = ltb (message_size text) 2 || not_least text (6 + message_size text)

-- rules of the n blocks deciphered; none reads the padding
unfoldable pub late_rules : List ℕ → List Rule
late_rules text =
    (11 when not (eqb (num 4 0 text) 0xCAFEBABE))
    ∷ (12 when message_misfit text)
    ∷ []

-- the message, none where 12 applies
unfoldable pub message_in : List ℕ → List ℕ
message_in text = pick (message_misfit text) [] (take (message_size text) (drop 6 text))
