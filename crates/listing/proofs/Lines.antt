-- The line of an event is put, and a listing goes on by it. Assumes nothing.
use mathlib.Core.Path.{◌≡◌, refl, sym, ap, ◌∙◌}
use mathlib.Core.Logic.{⊎_elim}
use mathlib.Core.List.{List, [], ◌∷◌, ◌++◌, append_assoc, append-nil}
use Prim.Native.Nat.{ℕ, ◌+◌, ◌-◌, ◌≤◌, ◌<◌}
use native.Mathlib.Nat.{eq-or-lt_of_le}
use native.Mathlib.Omega.{arith}
use lib.ListN.{length, take, drop, length-append, length-take}
use lib.Seq.{take-add, take_all, drop-drop}
use Rattle.std.specs.Prelude.{Option, Some, None}
use Rattle.wire.specs.Refusals.{number_of}
use Rattle.text.specs.Ascii.{ascii}
use Rattle.text.specs.Digits.{decimal}
use Rattle.text.specs.Puts.{Puts}
use Rattle.text.proofs.Digits.{decimal_length}
use Rattle.text.proofs.Puts.{puts_none, puts_then, puts_same, puts_length}
use Rattle.line.specs.Line.{Emitted, refusal, frame, emitted, run, after}
use Rattle.line.specs.Feed.{Feeds, Fed}
use Rattle.line.proofs.Run.{run_append, after_append}
use Rattle.line.proofs.Feeding.{feeds_after, feeds_forward}
use Rattle.listing.specs.Listing.{words, words_line, frame_line, refused_line, event_words, event_text, lines_of, between, Lists}
use Rattle.line.specs.declared.Receiver.{Receiver}
use Rattle.line.specs.declared.Event.{Event}
use Rattle.line.specs.declared.Event.TheVariants.{Frame, Refused}

-- ---- an event's line, part by part
pub words_put : (word : List ℕ) (a b : ℕ) {room m after : List ℕ} {at p q : ℕ} → Puts (word ++ decimal a) at room p m → Puts (ascii " " ++ decimal b) p m q after
    → Puts (words word a b) at room q after
words_put word a b x y = puts_same (puts_then x y) (sym (append_assoc (word ++ decimal a) (ascii " ") (decimal b)))

pub words_length : (word : List ℕ) (a b : ℕ) → length word ≤ 8 → length (words word a b) ≤ 49
words_length word a b h =
    omega (
      arith,
      h,
      length-append (word ++ decimal a ++ ascii " ") (decimal b),
      length-append (word ++ decimal a) (ascii " "),
      length-append word (decimal a),
      decimal_length 20 a,
      decimal_length 20 b,
    )

words_line_length : (word : List ℕ) (a b : ℕ) → length word ≤ 8 → length (words_line word a b) ≤ 50
words_line_length word a b h = omega (arith, words_length word a b h, length-append (words word a b) (ascii "\n"))

event_length : (e : Option Event) → length (event_text e) ≤ 50
event_length None = omega arith
event_length (Some (Refused r place)) = words_line_length (ascii "refused ") (number_of r) place (omega arith)
event_length (Some (Frame major minor w l)) = words_line_length (ascii "frame ") w l (omega arith)

-- an event's line is its words and what ends a line
pub line_words : (e : Event) → event_text (Some e) ≡ event_words (Some e) ++ ascii "\n"
line_words (Frame major minor w l) = refl
line_words (Refused r place) = refl

-- ---- the lines of what is handed out
lines_event : (e : Option Event) (s : List ℕ) → lines_of (emitted e s) ≡ event_text e
unfolding lines_of
lines_event None s = refl
lines_event (Some (Refused r place)) s = append-nil (refused_line (number_of r) place)
lines_event (Some (Frame major minor w l)) s = append-nil (frame_line w l)

lines_append : (a b : List Emitted) → lines_of (a ++ b) ≡ lines_of a ++ lines_of b
unfolding lines_of
lines_append [] b = refl
lines_append (refusal n place ∷ a) b =
    ap (λ (t : List ℕ). refused_line n place ++ t) (lines_append a b) ∙ sym (append_assoc (refused_line n place) (lines_of a) (lines_of b))
lines_append (frame major minor w l payload ∷ a) b =
    ap (λ (t : List ℕ). frame_line w l ++ t) (lines_append a b) ∙ sym (append_assoc (frame_line w l) (lines_of a) (lines_of b))

-- ---- bytes between places
between_none : (s : List ℕ) (i : ℕ) → between i i s ≡ []
between_none s i = let e : i - i ≡ 0 = omega arith in rw e

between_then : (s : List ℕ) (i j k : ℕ) → i ≤ j → j ≤ k → between i k s ≡ between i j s ++ between j k s
between_then s i j k h l =
    let e : k - i ≡ (j - i) + (k - j) = omega arith in
    let f : i + (j - i) ≡ j = omega arith in
    ap (λ (n : ℕ). take n (drop i s)) e
    ∙ take-add (j - i) (k - j) (drop i s)
    ∙ ap (λ (d : List ℕ). between i j s ++ take (k - j) d) (drop-drop (j - i) i s ∙ ap (λ (n : ℕ). drop n s) f)

-- ---- a listing
pub lists_none : (s : List ℕ) (from : ℕ) (r : Receiver) (room : List ℕ) → Lists s from r from r room 0 room
unfolding run after lines_of
lists_none s from r room =
    let e : between from from s ≡ [] = between_none s from in
    record {
      forward = omega arith;
      receiver = rw e;
      puts = rw e (puts_none 0 room);
      whole = rw e;
    }

module _ {s : List ℕ} {from : ℕ} {r : Receiver} {to : ℕ} {r' : Receiver} {room : List ℕ} {at : ℕ} {left : List ℕ} (x : Lists s from r to r' room at left) where
  pub lists_length : length left ≡ length room
  lists_length = puts_length x.puts

  pub lists_fits : at ≤ length room
  lists_fits = omega (arith, x.puts.place, length-take (length room - 0) (lines_of (run (between from to s) r)))

  -- the bytes up to the next event, and its line, for which there is room
  pub lists_more : {f : Fed} {q : ℕ} {next : List ℕ} → Feeds s to r' f → Puts (event_text f.event) at left q next → at + 50 ≤ length room
      → Lists s from r f.used f.receiver room q next
  lists_more {f} {q} {next} y z h =
      let forth : to ≤ f.used = feeds_forward s to r' f y.answer in
      let a : List ℕ = between from to s in
      let b : List ℕ = between to f.used s in
      let e : between from f.used s ≡ a ++ b = between_then s from to f.used x.forward forth in
      let lines : lines_of (run (between from f.used s) r) ≡ lines_of (run a r) ++ event_text f.event =
      ap (λ (l : List ℕ). lines_of (run l r)) e
      ∙ ap lines_of (run_append a b r)
      ∙ lines_append (run a r) (run b (after a r))
      ∙ ap (λ (t : List ℕ). lines_of (run a r) ++ t)
      (ap (λ (k : Receiver). lines_of (run b k)) (sym x.receiver) ∙ ap lines_of (sym y.emits) ∙ lines_event f.event f.receiver.store) in
      let fits : take (length left - at) (event_text f.event) ≡ event_text f.event =
      take_all (length left - at) (event_text f.event) (omega (arith, lists_length, event_length f.event)) in
      record {
        forward = omega arith;
        receiver =
            feeds_after s to r' f y.answer
            ∙ ap (after b) x.receiver
            ∙ sym (after_append a b r)
            ∙ ap (λ (l : List ℕ). after l r) (sym e);
        puts = puts_same (puts_then x.puts z) (sym lines);
        whole =
            omega (
              arith,
              z.place,
              ap length fits,
              x.whole,
              ap length lines,
              length-append (lines_of (run a r)) (event_text f.event),
            );
      }

  -- a listing with room for a line goes forward
  pub lists_forward : (to < length s → length room < at + 50) → from < length s → 50 ≤ length room → from < to
  unfolding run lines_of
  lists_forward stops h k =
      ⊎_elim
      (λ (e : from ≡ to).
      let b : between from to s ≡ [] = ap (λ (n : ℕ). between from n s) (sym e) ∙ between_none s from in
      let z : at ≡ 0 = x.whole ∙ ap (λ (l : List ℕ). length (lines_of (run l r))) b in
      absurd (omega (arith, stops (omega arith))))
      (λ (l : from < to). l)
      (eq-or-lt_of_le x.forward)

  -- and the receiver after it is the one after all bytes from the front on
  pub lists_after : (r₀ : Receiver) → r ≡ after (between 0 from s) r₀ → r' ≡ after (between 0 to s) r₀
  lists_after r₀ e =
      x.receiver
      ∙ ap (after (between from to s)) e
      ∙ sym (after_append (between 0 from s) (between from to s) r₀)
      ∙ ap (λ (l : List ℕ). after l r₀) (sym (between_then s 0 from to (omega arith) x.forward))

pub after_all : (s : List ℕ) (to : ℕ) (r : Receiver) {r' : Receiver} → length s ≤ to → r' ≡ after (between 0 to s) r → r' ≡ after s r
after_all s to r h e = e ∙ ap (λ (l : List ℕ). after l r) (take_all (to - 0) s (omega arith))
