-- THE PLACE OF A REFUSAL: document 02 §4. The statement, over the bytes and not over the record's count; proofs/Places.antt proves it.
use Rattle.std.specs.Prelude.{ℕ, ◌+◌, ◌*◌, ◌≤◌, ◌≡◌, List, [], ◌∷◌, ◌++◌, length, drop}
use Rattle.frame.specs.Image.{wire_frame}
use Rattle.line.specs.Receive.{mid_frame, busy, fresh_receiver}
use Rattle.line.specs.Line.{frame_gives, gives, run, after, EachRefusal, Limits, NoStart}
use Rattle.line.specs.declared.Receiver.{Receiver}

-- bs have come, and then b: the frame that b is in began with the last start byte of bs, and the place is the number of bytes from that
-- one to b, both counted
pub record FromStart (bs : List ℕ) (b place : ℕ) : Type 0 where
  pub before : List ℕ
  pub behind : List ℕ
  pub begun : bs ≡ before ++ (0x7E ∷ behind)
  pub clear : NoStart behind
  pub counts : place ≡ length (0x7E ∷ (behind ++ (b ∷ [])))

pub record Places : Type 0 where
  -- whatever the bytes and the record, every number is 1 to 4 and no place exceeds 1029
  pub limits : (bs : List ℕ) (r : Receiver) → EachRefusal Limits (run bs r)
  -- any bytes to a fresh receiver: at each of them
  pub fresh : (bs : List ℕ) (b : ℕ) → EachRefusal (λ n place. FromStart bs b place) (gives (after bs fresh_receiver) b)
  -- to any record from a start byte on: at each byte behind that one
  pub started : (r : Receiver) (bs : List ℕ) (b : ℕ) → EachRefusal (λ n place. FromStart (0x7E ∷ bs) b place) (gives (after (0x7E ∷ bs) r) b)
  -- from a start byte on, no frame is taken as idle in its middle
  pub middle : (r : Receiver) (bs : List ℕ) → busy (after (0x7E ∷ bs) r).progress ≡ mid_frame (after (0x7E ∷ bs) r).progress
  -- a frame of any size, whatever the bytes that it counts, is at least s + 3 and at most 2s + 5 bytes on the line
  pub bounds : (size : ℕ) (bytes : List ℕ) → length bytes ≡ size
      → (size + 3 ≤ length (wire_frame size bytes)) × (length (wire_frame size bytes) ≤ 2 * size + 5)
  -- and one of size 5 to 512 is finished by its last byte: handed out, or refused with 4 at its length
  pub finishes : (r : Receiver) (size : ℕ) (bytes : List ℕ) → 5 ≤ size → size ≤ 512 → length bytes ≡ size → size ≤ length r.store
      → run (wire_frame size bytes) r
      ≡ gives r 0x7E ++ frame_gives size (length (wire_frame size bytes)) (bytes ++ drop size r.store)
