-- Document 01's examples of frames on the line, computed.
use mathlib.Core.Path.{◌≡◌, refl}
use mathlib.Core.List.{[], ◌∷◌}
use Rattle.crc.specs.Crc.{crc_from, crc_byte, crc_bit}
use lib.ListN.{length, replicate}
use Rattle.frame.specs.Image.{wire_frame, image, escape, escape_byte, is_mark}

-- a plain hello, flags 0: size 8, 8 + 3 bytes
hello : image 0 (0 ∷ 0 ∷ 0 ∷ []) ≡ 0x7E ∷ 0x08 ∷ 0 ∷ 1 ∷ 0 ∷ 0 ∷ 0 ∷ 0 ∷ 0 ∷ 0xB0 ∷ 0x4B ∷ []
unfolding crc_from crc_byte crc_bit escape escape_byte is_mark
hello = refl

marks : escape (0x7E ∷ 0x5C ∷ 0x40 ∷ []) ≡ 0x5C ∷ 0x3E ∷ 0x5C ∷ 0x1C ∷ 0x40 ∷ []
unfolding escape escape_byte is_mark
marks = refl

-- a frame of size 512 with every byte behind its size escaped: 1027 bytes
longest : length (wire_frame 512 (replicate 512 0x7E)) ≡ 1027
unfolding escape escape_byte is_mark
longest = refl
