-- The message and the control packet in deciphered blocks: none for a misfit, else all its bytes. Assumes nothing.
use mathlib.Core.Path.{◌≡◌, sym, ap, ◌∙◌}
use mathlib.Core.Bool.{true, false}
use mathlib.Core.List.{List, [], ◌++◌}
use Prim.Native.Nat.{ℕ, ◌+◌, ◌*◌, ◌≤◌}
use native.Mathlib.Omega.{arith}
use lib.ListN.{length, take, drop, length-drop}
use lib.Seq.{length-take-le, take-append-le, drop-append-le}
use lib.Dec.{ltb}
use borrow.Author.Tests.{ltb-false, eqb-true, not-false}
use Rattle.wire.specs.Parts.{part, part_of}
use Rattle.wire.proofs.Choice.{or_fails}
use Rattle.wire.proofs.Lists.{part_in}
use Rattle.aes.specs.Ctr.{blocks_for}
use Rattle.envelope.specs.Blocks.{not_least}
use Rattle.envelope.specs.Sealed.{message_size, message_misfit, message_in}
use Rattle.envelope.specs.Characteristic.{packet_size, packet_misfit, packet_in}

pub least_blocks : (text : List ℕ) (n : ℕ) → not_least text n ≡ false → length text ≡ 16 * blocks_for n
unfolding not_least
least_blocks text n e = eqb-true _ _ (not-false _ e)

-- n bytes from a place on, in the least number of blocks that holds them
module _ (text : List ℕ) (at n : ℕ) (least : not_least text (at + n) ≡ false) where
  pub length_within : length (take n (drop at text)) ≡ n
  length_within = length-take-le n (drop at text) (omega (arith, length-drop at text, least_blocks text (at + n) least))

  -- with anything behind the blocks
  within_behind : (rest : List ℕ) → take (length (take n (drop at text))) (drop at (text ++ rest)) ≡ take n (drop at text)
  within_behind rest =
      let l = least_blocks text (at + n) least in
      rw length_within
      (ap (take n) (drop-append-le at text rest (omega (arith, l))) ∙ take-append-le n (drop at text) rest (omega (arith, l, length-drop at text)))

  part_within : part_of text (part at n) ≡ take n (drop at text)
  part_within = part_in text at n (omega (arith, least_blocks text (at + n) least))

module _ (text : List ℕ) where
  -- nothing for a misfit
  pub none_misfit : (message_misfit text ≡ true → message_in text ≡ []) × (packet_misfit text ≡ true → packet_in text ≡ [])
  unfolding message_in packet_in
  none_misfit = (λ e. rw e, λ e. rw e)

  -- ---- where neither 12 nor 18 applies
  pub size_fits : message_misfit text ≡ false → (2 ≤ message_size text) × (not_least text (6 + message_size text) ≡ false)
  size_fits e =
      let o = or_fails (ltb (message_size text) 2) (not_least text (6 + message_size text)) e in
      (ltb-false _ _ o.0, o.1)

  pub message_fits : message_misfit text ≡ false → message_in text ≡ take (message_size text) (drop 6 text)
  unfolding message_in
  message_fits e = rw e

  pub packet_fits : packet_misfit text ≡ false → packet_in text ≡ take (packet_size text) (drop 4 text)
  unfolding packet_in
  packet_fits e = rw e

  -- the part that a size read from the text names
  pub message_part : {size : ℕ} → message_misfit text ≡ false → size ≡ message_size text → part_of text (part 6 size) ≡ message_in text
  message_part e s =
      ap (λ (n : ℕ). part_of text (part 6 n)) s ∙ part_within text 6 (message_size text) (size_fits e).1 ∙ sym (message_fits e)

  pub packet_part : {size : ℕ} → packet_misfit text ≡ false → size ≡ packet_size text → part_of text (part 4 size) ≡ packet_in text
  packet_part e s = ap (λ (n : ℕ). part_of text (part 4 n)) s ∙ part_within text 4 (packet_size text) e ∙ sym (packet_fits e)

  -- they stand there with anything behind the blocks
  pub message_in_text : (rest : List ℕ) → message_misfit text ≡ false → take (length (message_in text)) (drop 6 (text ++ rest)) ≡ message_in text
  message_in_text rest e = rw (message_fits e) (within_behind text 6 (message_size text) (size_fits e).1 rest)

  pub packet_in_text : (rest : List ℕ) → packet_misfit text ≡ false → take (length (packet_in text)) (drop 4 (text ++ rest)) ≡ packet_in text
  packet_in_text rest e = rw (packet_fits e) (within_behind text 4 (packet_size text) e rest)
