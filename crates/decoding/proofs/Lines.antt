-- No line is longer than the room that the decoder has for it. Assumes nothing.
use mathlib.Core.List.{List, [], ◌∷◌, ◌++◌}
use Prim.Native.Nat.{ℕ, ◌*◌, ◌≤◌}
use native.Mathlib.Omega.{arith}
use lib.ListN.{length, take, length-append, length-take}
use lib.Dec.{eqb, leb}
use borrow.Author.Tests.{leb-true}
use Rattle.std.specs.Prelude.{Option, Some, None}
use Rattle.wire.specs.Refusals.{number_of}
use Rattle.wire.proofs.Choice.{pick_all}
use Rattle.text.specs.Ascii.{ascii}
use Rattle.text.specs.Digits.{decimal, hex}
use Rattle.text.proofs.Digits.{decimal_length}
use Rattle.line.specs.declared.Event.{Event}
use Rattle.line.specs.declared.Event.TheVariants.{Frame, Refused}
use Rattle.listing.specs.Listing.{event_words}
use Rattle.listing.proofs.Lines.{words_length}
use Rattle.decoding.specs.Decoding.{reason, payload_text, details, event_line}

hex_length : (s : List ℕ) → length (hex s) ≤ 2 * length s
unfolding hex
hex_length [] = omega arith
hex_length (b ∷ s) = omega (arith, hex_length s)

-- what comes behind the words: at most `: `, 64 digits and `..`
abbrev within : List ℕ → Type 0
within t = length t ≤ 68

reason_within : (n : ℕ) → within (reason n)
unfolding reason
reason_within n =
    pick_all within (eqb n 1)
    (λ e. omega arith)
    (λ e. pick_all within (eqb n 2) (λ f. omega arith)
    (λ f. pick_all within (eqb n 3) (λ g. omega arith) (λ g. pick_all within (eqb n 4) (λ h. omega arith) (λ h. omega arith))))

payload_within : (s : List ℕ) → within (payload_text s)
unfolding payload_text
payload_within s =
    pick_all within (eqb (length s) 0)
    (λ e. omega arith)
    (λ e. pick_all (λ (t : List ℕ). within (ascii ": " ++ t)) (leb (length s) 32)
    (λ f. omega (arith, leb-true (length s) 32 f, hex_length s))
    (λ f. omega (arith, length-append (hex (take 32 s)) (ascii ".."), hex_length (take 32 s), length-take 32 s)))

details_within : (e : Option Event) (payload : List ℕ) → within (details e payload)
details_within None payload = omega arith
details_within (Some (Refused r place)) payload = reason_within (number_of r)
details_within (Some (Frame major minor wrapper len)) payload = payload_within payload

event_words_length : (e : Option Event) → length (event_words e) ≤ 49
event_words_length None = omega arith
event_words_length (Some (Refused r place)) = words_length (ascii "refused ") (number_of r) place (omega arith)
event_words_length (Some (Frame major minor wrapper len)) = words_length (ascii "frame ") wrapper len (omega arith)

pub line_length : (offset : ℕ) (e : Option Event) (payload : List ℕ) → length (event_line offset e payload) ≤ 160
line_length offset e payload =
    omega (
      arith,
      decimal_length 20 offset,
      event_words_length e,
      details_within e payload,
      length-append (decimal offset ++ ascii " " ++ event_words e ++ details e payload) (ascii "\n"),
      length-append (decimal offset ++ ascii " " ++ event_words e) (details e payload),
      length-append (decimal offset ++ ascii " ") (event_words e),
      length-append (decimal offset) (ascii " "),
    )
