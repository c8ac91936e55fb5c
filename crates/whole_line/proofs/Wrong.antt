-- The right frame image and receiver meet the conclusion of the claim; a writer that writes nothing or one image always, and a receiver that reads only
-- the first frame, fail it on a list of two. Assumes nothing.
use mathlib.Core.Path.{◌≡◌, refl, ap}
use mathlib.Core.List.{List, [], ◌∷◌, ◌++◌}
use Prim.Native.Nat.{ℕ}
use native.Mathlib.Omega.{arith}
use lib.ListN.{length, drop}
use Rattle.wire.specs.Parts.{part_of}
use Rattle.crc.specs.Crc.{crc_from, crc_byte, crc_bit}
use Rattle.frame.specs.Image.{image, escape, escape_byte, is_mark}
use Rattle.line.specs.Receive.{step_of, busy, mid_frame, in_frame, unescaped, taken, stored, sized, fresh_receiver}
use Rattle.line.specs.Line as line
use Rattle.line.specs.Line.{Emitted, refusal, frame, frame_gives, value_gives, escaped_gives, inside_gives, gives, run, after, SentFrame}
use Rattle.line.specs.declared.Receiver.{Receiver}
use Rattle.bridge.specs.declared.Context.{Context}
use Rattle.whole_line.specs.Listed.{SentItem, plain, on_line, Occasion}
use Rattle.whole_line.specs.Claim.{Read}
use Rattle.whole_line.specs.Wrong.{line_by, run_by, after_by, ReadWith, next, writes_nothing, one_image, first_next, first_only, first_again}
use Rattle.whole_line.proofs.Example.{g, hello, reply}

-- ---- the right ones
line_by_lem : (fs : List SentFrame) → line_by image fs ≡ line.line_of fs
unfolding line.line_of
line_by_lem [] = refl
line_by_lem (f ∷ fs) = ap (λ (l : List ℕ). image f.wrapper f.payload ++ (f.noise ++ l)) (line_by_lem fs)

run_by_lem : (bs : List ℕ) (r : Receiver) → run_by gives next bs r ≡ run bs r
unfolding run
run_by_lem [] r = refl
run_by_lem (b ∷ bs) r = ap (λ (es : List Emitted). gives r b ++ es) (run_by_lem bs (next r b))

after_by_lem : (bs : List ℕ) (r : Receiver) → after_by next bs r ≡ after bs r
unfolding after
after_by_lem [] r = refl
after_by_lem (b ∷ bs) r = after_by_lem bs (next r b)

pub read_with : {g : Context} {ts : List SentItem} {r : Receiver} {at : ℕ → Occasion} → Read g ts r at → ReadWith image gives next g ts r at
read_with w =
    record {
      writes = w.writes;
      begins = rw (line_by_lem _) w.begins;
      starts = rw (run_by_lem _ _) w.starts;
      hands = rw (line_by_lem _, after_by_lem _ _, run_by_lem _ _) w.hands;
      gives = rw (line_by_lem _, run_by_lem _ _) w.gives;
    }

-- ---- the wrong ones, on a hello and a hub data reply
abbrev sent : List ℕ → SentItem
sent m = record { item = plain m; noise = [] }

abbrev pub two : List SentItem
two = sent hello ∷ sent reply ∷ []

-- the payload's length in the last frame handed out
abbrev last_length : List Emitted → ℕ
last_length [] = 0
last_length (refusal n place ∷ es) = last_length es
last_length (frame major minor wrapper len p ∷ []) = len
last_length (frame major minor wrapper len p ∷ (e ∷ es)) = last_length (e ∷ es)

-- a list of one they hand out as it is
abbrev one : List SentItem
one = sent hello ∷ []

pub one_passes : (run_by first_only first_next (drop 1 (line_by image (on_line g one))) (after_by first_next (0x7E ∷ []) fresh_receiver) ≡ line.frames_of (on_line g one))
    × (run_by first_again first_next (drop 1 (line_by image (on_line g one))) (after_by first_next (0x7E ∷ []) fresh_receiver) ≡ line.frames_of (on_line g one))
unfolding gives inside_gives escaped_gives value_gives frame_gives step_of busy mid_frame in_frame unescaped taken stored sized part_of line.frames_of escape escape_byte is_mark crc_from crc_byte crc_bit
one_passes = (refl, refl)

module _ (at : ℕ → Occasion) where
  pub writes_nothing_lem : ReadWith writes_nothing gives next g two fresh_receiver at → ⊥
  writes_nothing_lem w = let z : ◌≡◌ {A = ℕ} 0 1 = ap length w.begins in omega arith

  pub one_image_lem : ReadWith (one_image hello) gives next g two fresh_receiver at → ⊥
  unfolding gives inside_gives escaped_gives value_gives frame_gives step_of busy mid_frame in_frame unescaped taken stored sized part_of line.frames_of escape escape_byte is_mark crc_from crc_byte crc_bit
  one_image_lem w = let z : ◌≡◌ {A = ℕ} 3 6 = ap last_length w.hands in omega arith

  pub first_only_lem : ReadWith image first_only first_next g two fresh_receiver at → ⊥
  unfolding gives inside_gives escaped_gives value_gives frame_gives step_of busy mid_frame in_frame unescaped taken stored sized part_of line.frames_of escape escape_byte is_mark crc_from crc_byte crc_bit
  first_only_lem w = let z : ◌≡◌ {A = ℕ} 1 2 = ap length w.hands in omega arith

  pub first_again_lem : ReadWith image first_again first_next g two fresh_receiver at → ⊥
  unfolding gives inside_gives escaped_gives value_gives frame_gives step_of busy mid_frame in_frame unescaped taken stored sized part_of line.frames_of escape escape_byte is_mark crc_from crc_byte crc_bit
  first_again_lem w = let z : ◌≡◌ {A = ℕ} 3 6 = ap last_length w.hands in omega arith
