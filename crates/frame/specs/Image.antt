-- Escaping, and a frame's image on the line: document 01, 'Line'.
use Rattle.std.specs.Prelude.{ℕ, ◌+◌, Bool, ◌||◌, List, [], ◌∷◌, ◌++◌, length, eqb}
use Rattle.std.specs.Int.Bits.{bit_xor}
use Rattle.wire.specs.Choice.{pick}
use Rattle.wire.specs.Numbers.{le}
use Rattle.crc.specs.Crc.{crc_of}

-- 7E is the start byte, 5C the escape byte
unfoldable pub is_mark : ℕ → Bool
is_mark b = eqb b 0x7E || eqb b 0x5C

-- each byte equal to 7E or 5C is sent as 5C and then itself XOR 40
unfoldable pub escape_byte : ℕ → List ℕ
escape_byte b = pick (is_mark b) (0x5C ∷ bit_xor b 0x40 ∷ []) (b ∷ [])

unfoldable pub escape : List ℕ → List ℕ
escape [] = []
escape (b ∷ bs) = escape_byte b ++ escape bs

-- what the CRC covers: major 1, minor 0, wrapper type, payload
abbrev pub covered : ℕ → List ℕ → List ℕ
covered wrapper payload = 1 ∷ 0 ∷ wrapper ∷ payload

-- what the size counts: major, minor, wrapper type, payload and CRC
abbrev pub body : ℕ → List ℕ → List ℕ
body wrapper payload = covered wrapper payload ++ le 2 (crc_of (covered wrapper payload))

-- any frame on the line: start byte, size, and the bytes that the size counts
abbrev pub wire_frame : ℕ → List ℕ → List ℕ
wire_frame size bytes = 0x7E ∷ escape (le 2 size ++ bytes)

-- the frame that we write
abbrev pub image : ℕ → List ℕ → List ℕ
image wrapper payload = wire_frame (length payload + 5) (body wrapper payload)
