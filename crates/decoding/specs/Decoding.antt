-- The line of each event, for a person.
use Rattle.std.specs.Prelude.{ℕ, ◌≡◌, refl, List, [], ◌∷◌, ◌++◌, length, take, replicate, eqb, leb, Option, Some, None}
use Rattle.wire.specs.Choice.{pick}
use Rattle.wire.specs.Refusals.{number_of}
use Rattle.wire.specs.declared.refusals.Refusal.TheVariants.{BadFrameSize}
use Rattle.text.specs.Ascii.{ascii}
use Rattle.text.specs.Digits.{decimal, decimal_in, hex}
use Rattle.line.specs.declared.Event.{Event}
use Rattle.line.specs.declared.Event.TheVariants.{Frame, Refused}
use Rattle.listing.specs.Listing.{refused_words, event_words}

-- when a refusal is given, in the words of document 01's table
unfoldable pub reason : ℕ → List ℕ
reason n =
    pick (eqb n 1)
    (ascii ": 7E inside an unfinished frame")
    (pick (eqb n 2)
    (ascii ": 5C followed by other than 3E, 1C or 7E")
    (pick (eqb n 3)
    (ascii ": size below 5 or above 512")
    (pick (eqb n 4) (ascii ": CRC differs") [])))

-- a payload in base 16: the first 32 bytes and .. where it is longer, nothing where it is empty
unfoldable pub payload_text : List ℕ → List ℕ
payload_text payload =
    pick (eqb (length payload) 0)
    []
    (ascii ": " ++ pick (leb (length payload) 32) (hex payload) (hex (take 32 payload) ++ ascii ".."))

abbrev pub details : Option Event → List ℕ → List ℕ
details None payload = []
details (Some (Frame major minor wrapper len)) payload = payload_text payload
details (Some (Refused r place)) payload = reason (number_of r)

-- OFFSET frame TYPE LENGTH: PAYLOAD, or OFFSET refused N PLACE: REASON
abbrev pub event_line : ℕ → Option Event → List ℕ → List ℕ
event_line offset e payload = decimal offset ++ ascii " " ++ event_words e ++ details e payload ++ ascii "\n"

-- a refusal's, whatever its number
abbrev pub refused_line : ℕ → ℕ → ℕ → List ℕ
refused_line offset n place = decimal offset ++ ascii " " ++ refused_words n place ++ reason n ++ ascii "\n"

-- ---- the frame at offset 6 of the sample, and the refusal at offset 58
example_frame : event_line 6 (Some (Frame 1 0 0 3)) (0 ∷ 0 ∷ 0 ∷ []) ≡ ascii "6 frame 0 3: 000000\n"
unfolding decimal_in hex payload_text
example_frame = refl

example_refused : event_line 58 (Some (Refused BadFrameSize 3)) [] ≡ ascii "58 refused 3 3: size below 5 or above 512\n"
unfolding decimal_in reason
example_refused = refl

-- a number that no refusal has
example_any : refused_line 58 200 7 ≡ ascii "58 refused 200 7\n"
unfolding decimal_in reason
example_any = refl

-- a payload of 32 bytes is not cut, one of 33 is
example_whole : payload_text (replicate 32 0xAB) ≡ ascii ": abababababababababababababababababababababababababababababababab"
unfolding payload_text hex
example_whole = refl

example_cut : payload_text (replicate 33 0xAB) ≡ ascii ": abababababababababababababababababababababababababababababababab.."
unfolding payload_text hex
example_cut = refl
