-- A layout of bytes: how many, fields one behind the other with what is asked of the number in each, and what follows the fields.
use Rattle.std.specs.Prelude.{ℕ, ◌+◌, ◌*◌, ◌^◌, Bool, true, false, not, ◌&&◌, ◌||◌, List, [], ◌∷◌, ◌++◌, length, get_or, take, drop, eqb, ltb}
use Rattle.wire.specs.Numbers.{num, le}
use Rattle.wire.specs.Parts.{part_of}
use Rattle.wire.specs.Content.{Content, content}
use Rattle.wire.specs.declared.Part.{Part}

-- a field of so many bytes: any number, a number up to a limit, one number alone
pub data Field : Type 0 where
  any : ℕ → Field
  up_to : ℕ → ℕ → Field
  is : ℕ → ℕ → Field

abbrev pub width : Field → ℕ
width (any w) = w
width (up_to w limit) = w
width (is w value) = w

abbrev pub widths : List Field → ℕ
widths [] = 0
widths (f ∷ fs) = width f + widths fs

-- a number that a field does not take
abbrev pub wrong : Field → ℕ → Bool
wrong (any w) v = false
wrong (up_to w limit) v = ltb limit v
wrong (is w value) v = not (eqb v value)

-- how many bytes there are
pub data Size : Type 0 where
  exactly : ℕ → Size
  at_least : ℕ → Size
  -- a count in the first byte, then so many pairs
  pairs : Size

abbrev pub wrong_size : Size → List ℕ → Bool
wrong_size (exactly n) s = not (eqb (length s) n)
wrong_size (at_least n) s = ltb (length s) n
wrong_size pairs s = not (eqb (length s) (1 + 2 * get_or s 0 0))

-- what follows the fields
pub data Tail : Type 0 where
  nothing : Tail
  -- one part: anything
  free : Tail
  -- two parts: so many bytes, and the rest
  cut_at : ℕ → Tail
  -- one part: pairs whose second byte is at most a limit
  seconds : ℕ → Tail

-- the parts of what follows the fields
abbrev pub tail_parts : Tail → List ℕ → List (List ℕ)
tail_parts nothing s = []
tail_parts free s = s ∷ []
tail_parts (cut_at n) s = take n s ∷ drop n s ∷ []
tail_parts (seconds limit) s = s ∷ []

abbrev pub second_above : ℕ → List ℕ → Bool
second_above limit [] = false
second_above limit (a ∷ []) = false
second_above limit (a ∷ (b ∷ s)) = ltb limit b || second_above limit s

abbrev pub wrong_tail : Tail → List ℕ → Bool
wrong_tail nothing s = false
wrong_tail free s = false
wrong_tail (cut_at n) s = false
wrong_tail (seconds limit) s = second_above limit s

pub record Layout : Type 0 where
  pub size : Size
  pub fields : List Field
  pub tail : Tail

abbrev pub layout : Size → List Field → Tail → Layout
layout z fs t = record { size = z; fields = fs; tail = t }

-- ---- reading
-- the numbers in the fields, of which the first stands at a place
abbrev pub values_at : List Field → ℕ → List ℕ → List ℕ
values_at [] at s = []
values_at (f ∷ fs) at s = num (width f) at s ∷ values_at fs (at + width f) s

-- a field, of which the first stands at a place, does not take its number
abbrev pub wrong_at : List Field → ℕ → List ℕ → Bool
wrong_at [] at s = false
wrong_at (f ∷ fs) at s = wrong f (num (width f) at s) || wrong_at fs (at + width f) s

-- what a layout reads of bytes, under a number
abbrev pub content_by : ℕ → Layout → List ℕ → Content
content_by n l s = content n (values_at l.fields 0 s) (tail_parts l.tail (drop (widths l.fields) s))

-- a field, or what follows the fields, is not taken
abbrev pub wrong_fields : Layout → List ℕ → Bool
wrong_fields l s = wrong_at l.fields 0 s || wrong_tail l.tail (drop (widths l.fields) s)

-- ---- writing
-- the fields' bytes
abbrev pub encode : List Field → List ℕ → List ℕ
encode [] vs = []
encode (f ∷ fs) [] = []
encode (f ∷ fs) (v ∷ vs) = le (width f) v ++ encode fs vs

-- a number that its field's bytes do not hold, or not a number for each field
abbrev pub unfit : List Field → List ℕ → Bool
unfit [] [] = false
unfit [] (v ∷ vs) = true
unfit (f ∷ fs) [] = true
unfit (f ∷ fs) (v ∷ vs) = not (ltb v (256 ^ width f)) || unfit fs vs

-- the bytes that each part names
abbrev pub each_part : List ℕ → List Part → List (List ℕ)
each_part s [] = []
each_part s (p ∷ ps) = part_of s p ∷ each_part s ps

-- lists of bytes, one behind the other
abbrev pub joined : List (List ℕ) → List ℕ
joined [] = []
joined (a ∷ []) = a
joined (a ∷ (b ∷ rest)) = a ++ joined (b ∷ rest)

-- the bytes that parts name, one behind the other
abbrev pub parts_of : List ℕ → List Part → List ℕ
parts_of s ps = joined (each_part s ps)

-- a part runs past the end
abbrev pub past : List ℕ → Part → Bool
past s p = ltb (length s) (p.start + p.len)

abbrev pub any_past : List ℕ → List Part → Bool
any_past s [] = false
any_past s (p ∷ ps) = past s p || any_past s ps

-- parts of the same lengths
abbrev pub same_lengths : List Part → List Part → Bool
same_lengths [] [] = true
same_lengths [] (p ∷ ps) = false
same_lengths (p ∷ ps) [] = false
same_lengths (p ∷ ps) (p' ∷ ps') = eqb p.len p'.len && same_lengths ps ps'

-- what a writer makes of numbers for the fields and parts of bytes that follow them
abbrev pub body_of : Layout → List ℕ → List Part → List ℕ → List ℕ
body_of l vs ps s = encode l.fields vs ++ parts_of s ps

-- 17: a part past its bytes, or what the layout's reader would refuse, or cut into other parts than these
abbrev pub unreadable : Layout → List ℕ → List Part → List Part → List ℕ → Bool
unreadable l vs ps cut s =
    any_past s ps || unfit l.fields vs || wrong_size l.size (body_of l vs ps s) || wrong_fields l (body_of l vs ps s)
    || not (same_lengths ps cut)
