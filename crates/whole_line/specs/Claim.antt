-- DEMAND 3: NO LINE CAN BE READ TWO WAYS. The statement; proofs/OneWay.antt proves it for every context.
use Rattle.std.specs.Prelude.{ℕ, ◌+◌, ◌≡◌, List, [], ◌∷◌, ◌++◌, length, drop}
use Rattle.wire.specs.Choice.{pick}
use Rattle.line.specs.Receive.{busy}
use Rattle.line.specs.Line as line
use Rattle.line.specs.declared.Receiver.{Receiver}
use Rattle.session.specs.Memory.{remembered}
use Rattle.bridge.specs.declared.Context.{Context}
use Rattle.whole_line.specs.Listed.{SentItem, items, Made, on_line, line_of, AllWritten, Occasion, Ready, AllDiffer, openings, AllGive}

-- What becomes of a list of one message or more, from its first start byte on: of the line that it makes, over a receiver by what bytes give and the
-- record after them. r is the receiver as that byte finds it.
pub record ReadBy
    (whole : List ℕ) (run : List ℕ → Receiver → List line.Emitted) (after : List ℕ → Receiver → Receiver)
    (g : Context) (ts : List SentItem) (r : Receiver) (at : ℕ → Occasion) : Type 0 where
  -- given room, each is written, as one frame
  pub writes : AllWritten g (items ts)
  -- the line's first byte is the first frame's start byte
  pub begins : whole ≡ 0x7E ∷ drop 1 whole
  -- at that byte: 1 where a frame was unfinished, and its place counts this byte too; else nothing
  pub starts : run (0x7E ∷ []) r ≡ pick (busy r.progress) (line.refusal 1 (r.progress.count + 1) ∷ []) []
  -- behind that byte: exactly those frames, in order, and nothing else
  pub hands : run (drop 1 whole) (after (0x7E ∷ []) r) ≡ line.frames_of (on_line g ts)
  -- what is handed out from that byte on, opened in order, gives the messages, each its own
  pub gives : AllGive (items ts) (openings g at 0 g.session (run whole r))

-- the line of what the frame writer writes, and the receiver
abbrev pub Read : Context → List SentItem → Receiver → (ℕ → Occasion) → Type 0
Read g ts r at = ReadBy (line_of g ts) line.run line.after g ts r at

-- g: keys, mode, whether encryption is required, and the session in use.
pub record OneWay (g : Context) : Type 0 where
  -- any list of permitted messages whose packet nonces differ from those remembered at their turn, the ones that the session holds at the start
  -- among them; whatever noise is between and after them and whatever came before, whatever record the receiver is, whatever the work buffers hold
  pub read :
      (t : SentItem) (ts : List SentItem) → Made g (t ∷ ts)
      → (before : List ℕ) (r : Receiver) → length r.store ≡ 512
      → (at : ℕ → Occasion) → Ready g at 0 (items (t ∷ ts))
      → AllDiffer (remembered g.session.memory) (items (t ∷ ts))
      → Read g (t ∷ ts) (line.after before r) at
  -- two lists that make the same line, whatever noise is in either, are the same: in length, and at each place in message, form and packet nonce
  pub made :
      (ts us : List SentItem) → Made g ts → Made g us
      → (before before' : List ℕ) → line.NoStart before → line.NoStart before'
      → before ++ line_of g ts ≡ before' ++ line_of g us
      → items ts ≡ items us
