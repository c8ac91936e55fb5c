-- How a command's writer judges: a law for each test. Assumes nothing.
use mathlib.Core.Path.{◌≡◌, refl, ap}
use Prim.Native.Nat.{ℕ, ◌+◌, ◌%◌, ◌≤◌, ◌<◌}
use mathlib.Core.Bool.{Bool, true, false, ◌||◌}
use mathlib.Core.List.{List, [], ◌∷◌, ◌++◌}
use native.Mathlib.Omega.{arith}
use lib.ListN.{length, drop, length-append}
use lib.Dec.{ltb}
use borrow.Author.Tests.{lt-ltb, le-ltb}
use Rattle.wire.specs.Numbers.{le}
use Rattle.wire.specs.Fields.{any_past, unfit, wrong_size, wrong_fields, same_lengths, unreadable}
use Rattle.wire.specs.Writing.{Stores, Writes, no_room}
use Rattle.std.specs.Prelude.{Result}
use Rattle.wire.specs.declared.refusals.Refusal.{Refusal}
use Rattle.wire.specs.Refusals.{refusing}
use Rattle.wire.proofs.Fields.{unfit_drop, unreadable_past, unreadable_unfit, unreadable_fields, unreadable_size, unreadable_cut, not_unreadable}
use Rattle.wire.proofs.Writers.{writes_bad, writes_good}
use Rattle.control.specs.Command.{command_values, command_parts}
use Rattle.control.specs.declared.Command.{Command}
use Rattle.control_write.specs.Image.{packet_image, row_for, payload_image, reread, command_bad, bad_within}

module _ (limit : ℕ) (c : Command) (s : List ℕ) where
  pub bad_past : any_past s (command_parts c) ≡ true → bad_within limit c s ≡ true
  bad_past e = rw (unreadable_past (row_for c).payload (command_values c) (command_parts c) (command_parts (reread c s)) s e)

  -- behind k others stands a number that does not fit
  pub bad_unfit : (k : ℕ) → unfit (drop k (row_for c).payload.fields) (drop k (command_values c)) ≡ true → bad_within limit c s ≡ true
  bad_unfit k e =
      rw (unreadable_unfit (row_for c).payload (command_values c) (command_parts c) (command_parts (reread c s)) s (unfit_drop k (row_for c).payload.fields (command_values c) e))

  pub bad_size : wrong_size (row_for c).payload.size (payload_image c s) ≡ true → bad_within limit c s ≡ true
  bad_size e = rw (unreadable_size (row_for c).payload (command_values c) (command_parts c) (command_parts (reread c s)) s e)

  pub bad_fields : wrong_fields (row_for c).payload (payload_image c s) ≡ true → bad_within limit c s ≡ true
  bad_fields e = rw (unreadable_fields (row_for c).payload (command_values c) (command_parts c) (command_parts (reread c s)) s e)

  pub bad_cut : same_lengths (command_parts c) (command_parts (reread c s)) ≡ false → bad_within limit c s ≡ true
  bad_cut e = rw (unreadable_cut (row_for c).payload (command_values c) (command_parts c) (command_parts (reread c s)) s e)

  -- nothing but its length is left to judge
  pub long_only : any_past s (command_parts c) ≡ false → unfit (row_for c).payload.fields (command_values c) ≡ false
      → wrong_size (row_for c).payload.size (payload_image c s) ≡ false → wrong_fields (row_for c).payload (payload_image c s) ≡ false
      → same_lengths (command_parts c) (command_parts (reread c s)) ≡ true
      → bad_within limit c s ≡ ltb 65535 (length (payload_image c s)) || ltb limit (length (payload_image c s))
  long_only e1 e2 e3 e4 e5 =
      rw (not_unreadable (row_for c).payload (command_values c) (command_parts c) (command_parts (reread c s)) s e1 e2 e3 e4 e5)

or_twice : (a b : Bool) → a || b ≡ a || b || b
or_twice true b = refl
or_twice false true = refl
or_twice false false = refl

-- a limit that is the size field's own
pub within_all : (c : Command) (s : List ℕ) → command_bad c s ≡ bad_within 65535 c s
within_all c s =
    or_twice (unreadable (row_for c).payload (command_values c) (command_parts c) (command_parts (reread c s)) s) (ltb 65535 (length (payload_image c s)))

-- a token's three bytes
pub token_bytes : (v : ℕ) → v < 16777216 → le 3 (v % 16777216) ≡ le 3 v
token_bytes v h = ap (le 3) (omega arith)

-- ---- a packet of fields and two slices
module _ (limit n : ℕ) (front fields a b room : List ℕ) where
  body_length : length (fields ++ (a ++ b)) ≡ length fields + length a + length b
  body_length = omega (arith, length-append fields (a ++ b), length-append a b)

  pub packet_over : 65535 < length fields + length a + length b
      → Writes (ltb 65535 (length (fields ++ (a ++ b))) || ltb limit (length (fields ++ (a ++ b)))) (front ++ packet_image n (fields ++ (a ++ b))) room (refusing 17) room
  packet_over h = writes_bad (rw (lt-ltb 65535 (length (fields ++ (a ++ b))) (omega (arith, body_length))))

  pub packet_limit : length fields + length a + length b ≤ 65535 → limit < length fields + length a + length b
      → Writes (ltb 65535 (length (fields ++ (a ++ b))) || ltb limit (length (fields ++ (a ++ b)))) (front ++ packet_image n (fields ++ (a ++ b))) room (refusing 17) room
  packet_limit h k =
      writes_bad (rw (le-ltb 65535 (length (fields ++ (a ++ b))) (omega (arith, body_length)), lt-ltb limit (length (fields ++ (a ++ b))) (omega (arith, body_length))))

  pub packet_made : (size : ℕ) {answer : Result ℕ Refusal} {after : List ℕ} → size ≡ length fields + length a + length b → size ≤ 65535 → size ≤ limit
      → Stores (no_room 0 (front ++ (le 1 5 ++ (le 2 n ++ (le 2 size ++ (fields ++ (a ++ b)))))) room ∷ []) 0
      (front ++ (le 1 5 ++ (le 2 n ++ (le 2 size ++ (fields ++ (a ++ b)))))) room answer after
      → Writes (ltb 65535 (length (fields ++ (a ++ b))) || ltb limit (length (fields ++ (a ++ b)))) (front ++ packet_image n (fields ++ (a ++ b))) room answer after
  packet_made size e h k w =
      let l : size ≡ length (fields ++ (a ++ b)) = omega (arith, body_length) in
      writes_good
      (rw (le-ltb 65535 (length (fields ++ (a ++ b))) (omega (arith, body_length)), le-ltb limit (length (fields ++ (a ++ b))) (omega (arith, body_length))))
      (rw l at w)
