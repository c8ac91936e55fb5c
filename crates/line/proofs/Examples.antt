-- Examples of bytes that a fresh receiver gets, document 01's among them, computed.
use mathlib.Core.Path.{◌≡◌, refl}
use mathlib.Core.List.{List, [], ◌∷◌}
use Prim.Native.Nat.{ℕ}
use Rattle.wire.specs.Parts.{part_of}
use Rattle.crc.specs.Crc.{crc_from, crc_byte, crc_bit}
use Rattle.line.specs.Receive.{step_of, busy, mid_frame, in_frame, unescaped, taken, stored, sized, frame_payload, fresh_receiver}
use Rattle.line.specs.Line.{refusal, frame, frame_gives, value_gives, escaped_gives, inside_gives, gives, run, after}

-- the hello frame, then 41 7E 00 00
hello : run (0x7E ∷ 8 ∷ 0 ∷ 1 ∷ 0 ∷ 0 ∷ 0 ∷ 0 ∷ 0 ∷ 0xB0 ∷ 0x4B ∷ 0x41 ∷ 0x7E ∷ 0 ∷ 0 ∷ []) fresh_receiver
    ≡ frame 1 0 0 3 (0 ∷ 0 ∷ 0 ∷ []) ∷ refusal 3 3 ∷ []
unfolding run gives inside_gives escaped_gives value_gives frame_gives step_of busy mid_frame in_frame unescaped taken stored sized part_of crc_from crc_byte crc_bit
hello = refl

-- the byte after 5C is looked at: 5C 41 is refused
looked_at : run (0x7E ∷ 0x5C ∷ 0x41 ∷ []) fresh_receiver ≡ refusal 2 3 ∷ []
unfolding run gives inside_gives escaped_gives step_of busy mid_frame in_frame unescaped
looked_at = refl

-- ---- what one byte gives behind others
-- 7E 7E: 1, at the second byte
cut_short : gives (after (0x7E ∷ []) fresh_receiver) 0x7E ≡ refusal 1 2 ∷ []
unfolding gives inside_gives after step_of busy mid_frame
cut_short = refl

-- 7E 5C 5C: 2, at the third
wrong_escape : gives (after (0x7E ∷ 0x5C ∷ []) fresh_receiver) 0x5C ≡ refusal 2 3 ∷ []
unfolding gives inside_gives escaped_gives after step_of busy mid_frame in_frame
wrong_escape = refl

-- 7E 04 00: 3, at the third
size_four : gives (after (0x7E ∷ 4 ∷ []) fresh_receiver) 0 ≡ refusal 3 3 ∷ []
unfolding gives inside_gives value_gives after step_of busy mid_frame in_frame taken
size_four = refl

-- the hello frame, its last byte another: 4, at the eleventh
wrong_crc : gives (after (0x7E ∷ 8 ∷ 0 ∷ 1 ∷ 0 ∷ 0 ∷ 0 ∷ 0 ∷ 0 ∷ 0xB0 ∷ []) fresh_receiver) 0x4A ≡ refusal 4 11 ∷ []
unfolding gives inside_gives value_gives frame_gives after step_of busy mid_frame in_frame taken stored sized crc_from crc_byte crc_bit
wrong_crc = refl

-- idle, 41 is dropped
dropped : gives fresh_receiver 0x41 ≡ []
unfolding gives busy mid_frame
dropped = refl

-- no payload has 508 bytes
no_508 : (s : List ℕ) → frame_payload 508 s ≡ []
no_508 s = refl
