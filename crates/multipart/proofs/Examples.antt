-- Examples, worked out by hand from document 02 §1. Assumes nothing.
use mathlib.Core.Path.{◌≡◌, refl}
use mathlib.Core.List.{[], ◌∷◌, flatten}
use Rattle.wire.specs.Parts.{part_of}
use Rattle.multipart.specs.Cutting.{parts_from, parts, cut_after, cut_image}
use Rattle.multipart.specs.Assembler.{fresh_assembler, outside, limited, in_turn, out_of_turn, over_long, kept, counted, step_of, more, message_given}
use Rattle.multipart.specs.Delivery.{answers_to, handed_out}
use Rattle.wire.specs.Refusals.{refusing}

-- ---- cutting
-- three pieces, the last without data
three_parts : parts ((1 ∷ 2 ∷ []) ∷ (3 ∷ []) ∷ [] ∷ []) ≡ (0 ∷ 1 ∷ 2 ∷ []) ∷ (1 ∷ 3 ∷ []) ∷ (255 ∷ []) ∷ []
unfolding parts_from
three_parts = refl

-- five bytes, two to a part
cut_five : cut_image 2 (1 ∷ 2 ∷ 3 ∷ 4 ∷ 5 ∷ []) ≡ 0 ∷ 1 ∷ 2 ∷ 1 ∷ 3 ∷ 4 ∷ 255 ∷ 5 ∷ []
unfolding cut_image cut_after parts_from flatten
cut_five = refl

-- four: the last part is full as well
cut_four : cut_image 2 (1 ∷ 2 ∷ 3 ∷ 4 ∷ []) ≡ 0 ∷ 1 ∷ 2 ∷ 255 ∷ 3 ∷ 4 ∷ []
unfolding cut_image cut_after parts_from flatten
cut_four = refl

cut_empty : cut_image 20 [] ≡ 255 ∷ []
unfolding cut_image cut_after parts_from flatten
cut_empty = refl

-- ---- what is not noticed, of the message 1 2 3 in three parts or 1 2 in two, and what is handed out then
-- the part before the last is lost
lost_before_last : handed_out ((0 ∷ 1 ∷ []) ∷ (255 ∷ 3 ∷ []) ∷ []) fresh_assembler ≡ (1 ∷ 3 ∷ []) ∷ []
unfolding handed_out step_of counted in_turn limited outside out_of_turn over_long kept part_of
lost_before_last = refl

-- the first of two is lost
lost_first : handed_out ((255 ∷ 2 ∷ []) ∷ []) fresh_assembler ≡ (2 ∷ []) ∷ []
unfolding handed_out step_of counted in_turn limited outside out_of_turn over_long kept part_of
lost_first = refl

-- the last is doubled
doubled_last : handed_out ((0 ∷ 1 ∷ []) ∷ (255 ∷ 2 ∷ []) ∷ (255 ∷ 2 ∷ []) ∷ []) fresh_assembler ≡ (1 ∷ 2 ∷ []) ∷ (2 ∷ []) ∷ []
unfolding handed_out step_of counted in_turn limited outside out_of_turn over_long kept part_of
doubled_last = refl

-- ---- what is noticed: one in the middle is lost, and the 255 ends the discarding
lost_middle : answers_to ((0 ∷ 1 ∷ []) ∷ (2 ∷ 3 ∷ []) ∷ (255 ∷ 4 ∷ []) ∷ (255 ∷ []) ∷ []) fresh_assembler ≡ more ∷ refusing 26 ∷ refusing 26 ∷ message_given 0 ∷ []
unfolding answers_to step_of counted in_turn limited outside out_of_turn over_long kept
lost_middle = refl
