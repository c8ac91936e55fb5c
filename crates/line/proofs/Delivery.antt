-- Frames on a line, with any bytes but 7E before, between and after them, are handed out exactly, in order; and a line is made by one
-- list of frames alone. Assumes nothing.
use mathlib.Core.Path.{◌≡◌, refl, sym, ap, ◌∙◌, subst}
use mathlib.Core.List.{List, [], ◌∷◌, ◌++◌, append_assoc, append-nil}
use mathlib.Core.Bool.{Bool, true, false, ◌||◌}
use Prim.Native.Nat.{ℕ, suc, ◌+◌, ◌-◌, ◌*◌, ◌/◌, ◌%◌, ◌≤◌, ◌<◌}
use native.Mathlib.Omega.{arith}
use lib.ListN.{length, take, drop, get_or, set, length-append, length-drop, length-set, replicate, length-replicate}
use lib.Seq.{sets, sets-eq, take_at, get_or_at}
use lib.Bits.{bit_xor}
use lib.Dec.{eqb}
use borrow.Author.Tests.{eq-eqb, ne_eqb, eqb-true, eqb-false, le-leb}
use Rattle.std.specs.Prelude.{Some}
use Rattle.wire.specs.Choice.{pick}
use Rattle.wire.specs.Numbers.{le, num}
use Rattle.wire.proofs.Lists.{part_in}
use Rattle.crc.specs.Crc.{crc_of}
use Rattle.frame.specs.Image.{wire_frame, image, body, covered, escape, escape_byte, is_mark}
use Rattle.frame.proofs.Escape.{escape_byte_length}
use Rattle.line.specs.Receive.{step_of, busy, mid_frame, finished, reading, after_start, idle, holding, idle_receiver, step_to, frame_payload, fresh_receiver}
use Rattle.line.specs.Moves.{move_of, taken_move, stored_move, sized_move, keep, acted, store_after}
use Rattle.line.specs.Feed.{CountBounded}
use Rattle.line.specs.Line.{Emitted, refusal, frame, emitted, frame_gives, gives, inside_gives, run, after, SentFrame, line_of, frames_of, NoStart, Sendable}
use Rattle.line.proofs.Gives.{finished_gives, step_gives}
use Rattle.line.proofs.Run.{run_append}
use Rattle.line.proofs.Moves.{step_moves, taken_more, move_plain, move_mark, move_3_e, move_1_c}
use Rattle.line.specs.declared.Progress.{Progress}
use Rattle.line.specs.declared.Action.{Action}
use Rattle.line.specs.declared.Action.TheVariants.{Keep, Put, Finish, Refuse}
use Rattle.line.specs.declared.Move.{Move}
use Rattle.line.specs.declared.Receiver.{Receiver}
use Rattle.line.specs.declared.Step.{Step}
use Rattle.line.specs.declared.Event.{Event}
use Rattle.line.specs.declared.Event.TheVariants.{Frame}

-- what is handed out at a step, and then for the rest of the bytes
abbrev emitted_then : Step → (Receiver → List Emitted) → List Emitted
emitted_then t rest = emitted t.event t.receiver.store ++ rest t.receiver

-- the same at a move
abbrev moved_then : List ℕ → List ℕ → Move → List Emitted
moved_then rest s m = emitted_then (acted m s) (run rest)

run_move : (r : Receiver) (b : ℕ) (rest : List ℕ) (m : Move) → move_of r.progress b ≡ m → run (b ∷ rest) r ≡ moved_then rest r.store m
unfolding run
run_move r b rest m e =
    ap (λ (z : List Emitted). z ++ run rest (step_of r b).receiver) (sym (step_gives r b))
    ∙ ap (λ (t : Step). emitted_then t (run rest)) (step_moves r b)
    ∙ ap (moved_then rest r.store) e

module _ (low got size count : ℕ) (h5 : 5 ≤ size) (h512 : size ≤ 512) (hg : got < size + 2) (hc : CountBounded (reading false low got size count)) where
  -- one byte, escaped where it is a mark, is taken as it is
  byte : (s : List ℕ) (v : ℕ) (rest : List ℕ)
      → run (escape_byte v ++ rest) (holding (reading false low got size count) s)
      ≡ moved_then rest s (taken_move (reading false low got size (count + length (escape_byte v))) v)
  unfolding escape_byte is_mark
  byte s v rest = go (eqb v 0x7E) (eqb v 0x5C) refl refl
    where
      Claim : ℕ → List ℕ → Type 0
      Claim w l = run (l ++ rest) (holding (reading false low got size count) s) ≡ moved_then rest s (taken_move (reading false low got size (count + length l)) w)

      out : Bool → ℕ → List ℕ
      out t w = pick t (0x5C ∷ bit_xor w 0x40 ∷ []) (w ∷ [])

      go : (x y : Bool) → eqb v 0x7E ≡ x → eqb v 0x5C ≡ y → Claim v (out (x || y) v)
      go true y p q =
          subst (λ (w : ℕ). Claim w (out true w)) (sym (eqb-true _ _ p))
          (run_move _ 0x5C (0x3E ∷ rest) _ (move_mark low got size count h5 h512 hg hc) ∙ run_move _ 0x3E rest _ (move_3_e low got size count h5 h512 hg hc))
      go false true p q =
          subst (λ (w : ℕ). Claim w (out true w)) (sym (eqb-true _ _ q))
          (run_move _ 0x5C (0x1C ∷ rest) _ (move_mark low got size count h5 h512 hg hc) ∙ run_move _ 0x1C rest _ (move_1_c low got size count h5 h512 hg hc))
      go false false p q = run_move _ v rest _ (move_plain low got size count h5 h512 hg hc v (eqb-false _ _ p) (eqb-false _ _ q))

-- the last byte of a body
taken_last : (n g k c v : ℕ) → g ≡ k + 2 → g ≡ n + 1 → taken_move (reading false 0 g n c) v ≡ record { progress = idle; action = Finish k v n c }
unfolding taken_move stored_move
taken_last n g k c v e l =
    let p : g ≡ 0 → ⊥ = omega arith in
    let q : g ≡ 1 → ⊥ = omega arith in
    let d : g - 2 ≡ k = omega arith in
    simp (ne_eqb _ _ p, ne_eqb _ _ q, eq-eqb _ _ l, d)

-- what a frame's last byte does
abbrev done : ℕ → ℕ → List ℕ → Step
done size place s = step_to idle s (Some (finished size place s))

reads : (n : ℕ) → 5 ≤ n → n ≤ 512 → (rest : List ℕ) (todo : List ℕ) (v g k c : ℕ) (s : List ℕ)
    → g ≡ k + 2 → k + length todo + 1 ≡ n → CountBounded (reading false 0 g n c)
    → run (escape (v ∷ todo) ++ rest) (holding (reading false 0 g n c) s) ≡ emitted_then (done n (c + length (escape (v ∷ todo))) (sets s k (v ∷ todo))) (run rest)
unfolding escape
reads n h5 h512 rest [] v g k c s eg en hc =
    let e : c + length (escape_byte v ++ []) ≡ c + length (escape_byte v) = omega (arith, length-append (escape_byte v) []) in
    rw append_assoc
    (byte 0 g n c h5 h512 (omega arith) hc s v rest
    ∙ ap (moved_then rest s) (taken_last n g k (c + length (escape_byte v)) v eg (omega arith))
    ∙ ap (λ (z : ℕ). emitted_then (done n z (set s k v)) (run rest)) (sym e))
reads n h5 h512 rest (w ∷ ws) v g k c s eg en hc =
    let d : ℕ = c + length (escape_byte v) in
    let more : List ℕ = escape (w ∷ ws) in
    let e : c + length (escape_byte v ++ more) ≡ d + length more = omega (arith, length-append (escape_byte v) more) in
    rw append_assoc
    (byte 0 g n c h5 h512 (omega arith) hc s v (more ++ rest)
    ∙ ap (moved_then (more ++ rest) s) (taken_more 0 n g k d v eg (omega arith))
    ∙ reads n h5 h512 rest ws w (g + 1) (suc k) d (set s k v) (omega arith) (omega arith) (omega (arith, (escape_byte_length v).1))
    ∙ ap (λ (z : ℕ). emitted_then (done n z (sets (set s k v) (suc k) (w ∷ ws))) (run rest)) (sym e))

-- a body of ours in front of the store
finished_body : (wrapper : ℕ) (payload t : List ℕ) (place : ℕ)
    → finished (length payload + 5) place (body wrapper payload ++ t) ≡ Frame 1 0 wrapper (length payload)
unfolding finished
finished_body wrapper payload t place =
    let c : List ℕ = covered wrapper payload in
    let lo : ℕ = crc_of c % 0x100 in
    let hi : ℕ = crc_of c / 0x100 in
    let n : ℕ = length payload + 5 in
    let l : List ℕ = body wrapper payload ++ t in
    let a : l ≡ c ++ (lo ∷ hi ∷ t) = append_assoc c (le 2 (crc_of c)) t in
    let b : l ≡ (c ++ (lo ∷ [])) ++ (hi ∷ t) = a ∙ sym (append_assoc c (lo ∷ []) (hi ∷ t)) in
    let lc : length (c ++ (lo ∷ [])) ≡ n - 2 + 1 = simp length-append (omega arith) in
    let e1 : take (n - 2) l ≡ c = ap (take (n - 2)) a ∙ take_at c (lo ∷ hi ∷ t) (n - 2) (omega arith) in
    let e2 : get_or l (n - 2) 0 ≡ lo = ap (λ (x : List ℕ). get_or x (n - 2) 0) a ∙ get_or_at c lo (hi ∷ t) 0 (n - 2) (omega arith) in
    let e3 : get_or l (n - 2 + 1) 0 ≡ hi = ap (λ (x : List ℕ). get_or x (n - 2 + 1) 0) b ∙ get_or_at (c ++ (lo ∷ [])) hi t 0 (n - 2 + 1) lc in
    let e : crc_of (take (n - 2) l) ≡ num 2 (n - 2) l = omega (arith, ap crc_of e1) in
    let d : n - 5 ≡ length payload = omega arith in
    simp (eq-eqb _ _ e, d)

-- what a start byte gives
abbrev pub at_start : Receiver → List Emitted
at_start r = pick (busy r.progress) (refusal 1 (r.progress.count + 1) ∷ []) []

start : (r : Receiver) (rest : List ℕ) → run (0x7E ∷ rest) r ≡ at_start r ++ run rest (holding after_start r.store)
unfolding run step_of gives inside_gives
start r rest = refl

sized_in : (n c : ℕ) → 5 ≤ n → n ≤ 512 → sized_move n c ≡ keep (reading false 0 2 n c)
unfolding sized_move
sized_in n c h5 h512 = simp (le-leb _ _ h5, le-leb _ _ h512)

-- the start byte and the size's two bytes, on the line
abbrev head_length : ℕ → ℕ
head_length n = 1 + length (escape_byte (n % 0x100)) + length (escape_byte (n / 0x100))

head : (n : ℕ) (s bs rest : List ℕ) → 5 ≤ n → n ≤ 512
    → run (escape (le 2 n ++ bs) ++ rest) (holding after_start s) ≡ run (escape bs ++ rest) (holding (reading false 0 2 n (head_length n)) s)
unfolding escape taken_move
head n s bs rest h5 h512 =
    let lo : ℕ = n % 0x100 in
    let hi : ℕ = n / 0x100 in
    let q : lo + 256 * hi ≡ n = omega arith in
    let c : ℕ = 1 + length (escape_byte lo) in
    simp append_assoc
    (byte 0 0 5 1 (omega arith) (omega arith) (omega arith) (omega arith) s lo (escape_byte hi ++ (escape bs ++ rest))
    ∙ byte lo 1 5 c (omega arith) (omega arith) (omega arith) (omega (arith, (escape_byte_length lo).1)) s hi (escape bs ++ rest)
    ∙ ap (moved_then (escape bs ++ rest) s) (ap (λ (z : ℕ). sized_move z (head_length n)) q ∙ sized_in n (head_length n) h5 h512))

head_bounded : (n : ℕ) → CountBounded (reading false 0 2 n (head_length n))
head_bounded n = omega (arith, (escape_byte_length (n % 0x100)).1, (escape_byte_length (n / 0x100)).1)

frame_bytes : (n : ℕ) (bs : List ℕ) → head_length n + length (escape bs) ≡ length (wire_frame n bs)
unfolding escape
frame_bytes n bs =
    let lo : List ℕ = escape_byte (n % 0x100) in
    let hi : List ℕ = escape_byte (n / 0x100) in
    omega (arith, length-append lo (hi ++ escape bs), length-append hi (escape bs))

-- Any frame of size 5 to 512, from any record: its last byte, and no other, finishes it.
any_frame : (r : Receiver) (n : ℕ) (bs rest : List ℕ) → 5 ≤ n → n ≤ 512 → length bs ≡ n → n ≤ length r.store
    → run (wire_frame n bs ++ rest) r ≡ at_start r ++ emitted_then (done n (length (wire_frame n bs)) (bs ++ drop n r.store)) (run rest)
any_frame r n [] rest h5 h512 l hs = absurd (omega arith)
any_frame r n (b ∷ bs) rest h5 h512 l hs =
    let s : List ℕ = r.store in
    let x : List ℕ = escape (le 2 n ++ (b ∷ bs)) ++ rest in
    let lb : 0 + length (b ∷ bs) ≡ n = omega arith in
    let st : sets s 0 (b ∷ bs) ≡ (b ∷ bs) ++ drop n s = sets-eq (b ∷ bs) s 0 (omega arith) ∙ ap (λ (k : ℕ). (b ∷ bs) ++ drop k s) lb in
    start r x
    ∙ ap (λ (z : List Emitted). at_start r ++ z)
    (head n s (b ∷ bs) rest h5 h512
    ∙ reads n h5 h512 rest bs b 2 0 (head_length n) s refl (omega arith) (head_bounded n)
    ∙ ap (λ (z : ℕ). emitted_then (done n z (sets s 0 (b ∷ bs))) (run rest)) (frame_bytes n (b ∷ bs))
    ∙ ap (λ (z : List ℕ). emitted_then (done n (length (wire_frame n (b ∷ bs))) z) (run rest)) st)

pub frame_finished : (r : Receiver) (n : ℕ) (bs : List ℕ) → 5 ≤ n → n ≤ 512 → length bs ≡ n → n ≤ length r.store
    → run (wire_frame n bs) r ≡ gives r 0x7E ++ frame_gives n (length (wire_frame n bs)) (bs ++ drop n r.store)
unfolding run gives inside_gives
frame_finished r n bs h5 h512 l hs =
    let s : List ℕ = bs ++ drop n r.store in
    let e : List Emitted = emitted (Some (finished n (length (wire_frame n bs)) s)) s in
    ap (λ (x : List ℕ). run x r) (sym (append-nil (wire_frame n bs)))
    ∙ any_frame r n bs [] h5 h512 l hs
    ∙ ap (λ (z : List Emitted). at_start r ++ z) (append-nil e ∙ finished_gives n (length (wire_frame n bs)) s)

-- the payload of a frame that stands whole at the front of the store
payload_there : (wrapper : ℕ) (payload t : List ℕ) → length payload ≤ 507 → frame_payload (length payload) (body wrapper payload ++ t) ≡ payload
payload_there wrapper payload t hp =
    let two : List ℕ = le 2 (crc_of (covered wrapper payload)) in
    let l : length ((payload ++ two) ++ t) ≡ length payload + 2 + length t = omega (arith, length-append (payload ++ two) t, length-append payload two) in
    let p : take (length payload) ((payload ++ two) ++ t) ≡ payload = rw append_assoc (take_at payload (two ++ t) (length payload) refl) in
    simp (le-leb _ _ hp) (part_in (body wrapper payload ++ t) 3 (length payload) (omega arith) ∙ p)

one_frame : (r : Receiver) (wrapper : ℕ) (payload rest : List ℕ) → length r.store ≡ 512 → length payload ≤ 507
    → run (image wrapper payload ++ rest) r
    ≡ at_start r ++ (frame 1 0 wrapper (length payload) payload ∷ run rest (idle_receiver (body wrapper payload ++ drop (length payload + 5) r.store)))
one_frame r wrapper payload rest hs hp =
    let n : ℕ = length payload + 5 in
    let bs : List ℕ = body wrapper payload in
    let t : List ℕ = drop n r.store in
    let lb : length bs ≡ n = omega (arith, length-append payload (le 2 (crc_of (covered wrapper payload)))) in
    any_frame r n bs rest (omega arith) (omega arith) lb (omega arith)
    ∙ ap (λ (z : Event). at_start r ++ emitted_then (step_to idle (bs ++ t) (Some z)) (run rest)) (finished_body wrapper payload t (length (image wrapper payload)))
    ∙ ap (λ (z : List ℕ). at_start r ++ (frame 1 0 wrapper (length payload) z ∷ run rest (idle_receiver (bs ++ t)))) (payload_there wrapper payload t hp)

-- idle, what is no start byte is dropped
move_idle : (h : Progress) (b : ℕ) → busy h ≡ false → (b ≡ 0x7E → ⊥) → move_of h b ≡ keep h
unfolding move_of
move_idle h b t p = simp (ne_eqb _ _ p, t)

pub noise : (r : Receiver) → busy r.progress ≡ false → (bs rest : List ℕ) → NoStart bs → run (bs ++ rest) r ≡ run rest r
noise r h [] rest ok = refl
noise r h (b ∷ bs) rest ok = run_move r b (bs ++ rest) (keep r.progress) (move_idle r.progress b h ok.0) ∙ noise r h bs rest ok.1

pub idle_busy : busy idle ≡ false
unfolding busy mid_frame
idle_busy = refl

body_length : (wrapper : ℕ) (payload s : List ℕ) → length s ≡ 512 → length payload ≤ 507
    → length (body wrapper payload ++ drop (length payload + 5) s) ≡ 512
body_length wrapper payload s hs hp = simp (length-append, length-drop) (omega arith)

-- an idle receiver gives the frames of a line in order, and nothing else
pub frames : (fs : List SentFrame) (s : List ℕ) → length s ≡ 512 → Sendable fs → run (line_of fs) (idle_receiver s) ≡ frames_of fs
unfolding line_of frames_of run busy mid_frame
frames [] s hs ok = refl
frames (f ∷ fs) s hs ok =
    let s' : List ℕ = body f.wrapper f.payload ++ drop (length f.payload + 5) s in
    one_frame (idle_receiver s) f.wrapper f.payload (f.noise ++ line_of fs) hs ok.0
    ∙ ap (λ (z : List Emitted). frame 1 0 f.wrapper (length f.payload) f.payload ∷ z)
    (noise (idle_receiver s') idle_busy f.noise (line_of fs) ok.1
    ∙ frames fs s' (body_length f.wrapper f.payload s hs ok.0) ok.2)

-- any receiver gives refusal 1 first where a frame was unfinished, then the frames of a line in order, and nothing else
pub delivered : (r : Receiver) (f : SentFrame) (fs : List SentFrame) → length r.store ≡ 512 → Sendable (f ∷ fs)
    → run (line_of (f ∷ fs)) r ≡ at_start r ++ frames_of (f ∷ fs)
unfolding line_of frames_of
delivered r f fs hs ok =
    let s' : List ℕ = body f.wrapper f.payload ++ drop (length f.payload + 5) r.store in
    one_frame r f.wrapper f.payload (f.noise ++ line_of fs) hs ok.0
    ∙ ap (λ (z : List Emitted). at_start r ++ (frame 1 0 f.wrapper (length f.payload) f.payload ∷ z))
    (noise (idle_receiver s') idle_busy f.noise (line_of fs) ok.1
    ∙ frames fs s' (body_length f.wrapper f.payload r.store hs ok.0) ok.2)

-- ---- the store keeps its length
act_kept : (a : Action) (s : List ℕ) → length (store_after a s) ≡ length s
act_kept Keep s = refl
act_kept (Put k v) s = length-set s k v
act_kept (Finish k v n c) s = length-set s k v
act_kept (Refuse r place) s = refl

pub after_kept : (bs : List ℕ) (r : Receiver) → length (after bs r).store ≡ length r.store
unfolding after
after_kept [] r = refl
after_kept (b ∷ bs) r =
    after_kept bs (step_of r b).receiver
    ∙ ap (λ (t : Step). length t.receiver.store) (step_moves r b)
    ∙ act_kept (move_of r.progress b).action r.store

-- The claim: from the first start byte on, refusal 1 if a frame was unfinished there, then the frames in order, and nothing else.
pub whole : (r : Receiver) (before : List ℕ) (f : SentFrame) (fs : List SentFrame) → length r.store ≡ 512 → Sendable (f ∷ fs)
    → run (before ++ line_of (f ∷ fs)) r ≡ run before r ++ (at_start (after before r) ++ frames_of (f ∷ fs))
whole r before f fs hs ok =
    run_append before (line_of (f ∷ fs)) r
    ∙ ap (λ (z : List Emitted). run before r ++ z) (delivered (after before r) f fs (after_kept before r ∙ hs) ok)

-- ---- a line is made by one list of frames alone
-- what a fresh receiver hands out
fresh_hands : (before : List ℕ) (fs : List SentFrame) → NoStart before → Sendable fs → run (before ++ line_of fs) fresh_receiver ≡ frames_of fs
fresh_hands before fs clear ok =
    noise fresh_receiver idle_busy before (line_of fs) clear ∙ frames fs (replicate 512 0) (length-replicate {A = ℕ} 512 0) ok

-- Two lists of frames that make the same line, whatever noise is in either, are the same list of frames.
pub same_line : (fs gs : List SentFrame) → Sendable fs → Sendable gs → (before before' : List ℕ) → NoStart before → NoStart before'
    → before ++ line_of fs ≡ before' ++ line_of gs → frames_of fs ≡ frames_of gs
same_line fs gs okf okg before before' clear clear' e =
    sym (fresh_hands before fs clear okf) ∙ ap (λ (l : List ℕ). run l fresh_receiver) e ∙ fresh_hands before' gs clear' okg
