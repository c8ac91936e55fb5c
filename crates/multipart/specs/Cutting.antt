-- A message cut into parts: document 02 §1.
use Rattle.std.specs.Prelude.{ℕ, zero, suc, ◌+◌, ◌-◌, ◌/◌, ◌≤◌, ◌<◌, ◌≡◌, ◌||◌, length, get_or, take, drop, eqb, ltb}
use mathlib.Core.List.{List, [], ◌∷◌, flatten}
use Rattle.wire.specs.Rules.{Rule, ◌when◌}
use Rattle.wire.specs.Writing.{no_room}

-- ---- cutting by the rules
-- the parts that pieces of data make, from a counter on: a counter byte and the data, rising by one, 255 on the last
unfoldable pub parts_from : ℕ → List (List ℕ) → List (List ℕ)
parts_from k [] = []
parts_from k (d ∷ []) = (255 ∷ d) ∷ []
parts_from k (d ∷ e ∷ ds) = (k ∷ d) ∷ parts_from (k + 1) (e ∷ ds)

-- 0 first
abbrev pub parts : List (List ℕ) → List (List ℕ)
parts ds = parts_from 0 ds

-- the pieces that a message may be cut into; a piece may be empty
pub record Cuts (message : List ℕ) (ds : List (List ℕ)) : Type 0 where
  pub joined : flatten ds ≡ message
  pub some : 1 ≤ length ds
  -- counters 0 to 254, then 255
  pub most : length ds ≤ 256
  pub fits : length message ≤ 500

-- ---- the cutter
-- so many full pieces, and the rest as the last
unfoldable pub cut_after : ℕ → ℕ → List ℕ → List (List ℕ)
cut_after zero size message = message ∷ []
cut_after (suc n) size message = take size message ∷ cut_after n size (drop size message)

-- how many stand before the last, where each of them is full and the last is empty only where the message is
abbrev pub pieces_before : ℕ → ℕ → ℕ
pieces_before size len = (len - 1) / size

abbrev pub pieces : ℕ → List ℕ → List (List ℕ)
pieces size message = cut_after (pieces_before size (length message)) size message

-- the parts one behind the other
unfoldable pub cut_image : ℕ → List ℕ → List ℕ
cut_image size message = flatten (parts (pieces size message))

-- 27, then 17 where the data bytes per part are 0 or more than 256 parts would be needed, then 25
abbrev pub cutter_rules : ℕ → List ℕ → List ℕ → List Rule
cutter_rules size message room =
    (27 when ltb 500 (length message))
    ∷ (17 when (eqb size 0 || ltb 256 (length (pieces size message))))
    ∷ no_room 0 (cut_image size message) room
    ∷ []

-- every piece but the last has `size` bytes; the last has at most `size`, and none only where the message has none
pub record Filled (size : ℕ) (message : List ℕ) (ds : List (List ℕ)) : Type 0 where
  pub full : (k : ℕ) → suc k < length ds → length (get_or ds k []) ≡ size
  pub last : length (get_or ds (length ds - 1) []) ≤ size
  pub empty : length (get_or ds (length ds - 1) []) ≡ 0 → message ≡ []

-- no pieces of at most `size` bytes that make the message are fewer
abbrev pub Fewest : ℕ → List ℕ → List (List ℕ) → Type 0
Fewest size message ds =
    (es : List (List ℕ)) → flatten es ≡ message → 1 ≤ length es → ((k : ℕ) → k < length es → length (get_or es k []) ≤ size)
    → length ds ≤ length es
