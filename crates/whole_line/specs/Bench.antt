-- Document 01, 'Bench examples': those marked P, in its order, as one table. proofs/Bench.antt proves the one statement, `All table`.
use Rattle.std.specs.Prelude.{ℕ, ◌≡◌, Bool, true, false, List, [], ◌∷◌, ◌++◌, length, replicate}
use Rattle.wire.specs.Numbers.{le}
use Rattle.wire.specs.Content.{Judged, accepted, refused, Content, content}
use Rattle.frame.specs.Image.{escape, image}
use Rattle.line.specs.Receive.{fresh_receiver, idle, reading, after_start}
use Rattle.line.specs.Line.{Emitted, refusal, run, after}
use Rattle.line.specs.declared.Progress.{Progress}
use Rattle.access.specs.declared.Mode.{Mode}
use Rattle.access.specs.declared.Mode.TheVariants.{Normal}
use Rattle.access.specs.declared.Access.{Access}
use Rattle.access.specs.declared.Access.TheVariants.{Plain, Keyed}
use Rattle.access.specs.declared.Level.TheVariants.{Member}
use Rattle.control.specs.Control.{read_control, control_answer}
use Rattle.session.specs.Session.{with_nonce, valid_at}
use Rattle.session.specs.declared.Session.{Session}
use Rattle.envelope.specs.Blocks.{blocks_in}
use Rattle.envelope.specs.Sealed.{sealed_image}

-- a kind of example each
pub data Row : Type 0 where
  -- body bytes, and how they go out
  escapes : List ℕ → List ℕ → Row
  -- a plain message, and its frame on the line
  framed : List ℕ → List ℕ → Row
  -- bytes that a fresh receiver gets, what it hands out, and how it stands afterwards
  received : List ℕ → List Emitted → Progress → Row
  -- a message of so many bytes, and its blocks
  seals : ℕ → ℕ → Row
  -- a session set at a time for so many minutes, and whether it is valid at another time
  session : ℕ → ℕ → ℕ → Bool → Row
  -- a command and its payload, the mode, and by what access it comes; what it gets
  command : ℕ → List ℕ → Mode → Access → Judged Content ℕ → Row

-- protocol, command type (2), size (2), payload
abbrev pub packet_of : ℕ → List ℕ → List ℕ
packet_of n q = 5 ∷ (le 2 n ++ (le 2 (length q) ++ q))

abbrev pub Right : Row → Type 0
Right (escapes s out) = escape s ≡ out
Right (framed m out) = image 0 m ≡ out
Right (received s es p) = (run s fresh_receiver ≡ es) × ((after s fresh_receiver).progress ≡ p)
-- whatever its bytes, the key and the nonces
Right (seals n blocks) = (key pn sn m : List ℕ) → length pn ≡ 3 → length m ≡ n → blocks_in (sealed_image key pn sn m) ≡ blocks
-- whatever its nonce, and whatever session was there
Right (session set minutes now valid) =
    (s : Session) (nonce : List ℕ) → valid_at (with_nonce s nonce (record { 0 = minutes }) (record { 0 = set })) (record { 0 = now }) ≡ valid
Right (command n q mode access answer) = control_answer (read_control (packet_of n q) mode access) (packet_of n q) ≡ answer

abbrev pub All : List Row → Type 0
All [] = Unit {0}
All (r ∷ rs) = Right r × All rs

-- just after a size, none of its bytes escaped
abbrev pub after_size : ℕ → Progress
after_size n = reading false 0 2 n 3

abbrev pub table : List Row
table =
    -- body bytes 7E 5C 40
    escapes (0x7E ∷ 0x5C ∷ 0x40 ∷ []) (0x5C ∷ 0x3E ∷ 0x5C ∷ 0x1C ∷ 0x40 ∷ [])
    -- plain hello, flags 0
    ∷ framed (0 ∷ 0 ∷ 0 ∷ []) (0x7E ∷ 0x08 ∷ 0x00 ∷ 0x01 ∷ 0x00 ∷ 0x00 ∷ 0x00 ∷ 0x00 ∷ 0x00 ∷ 0xB0 ∷ 0x4B ∷ [])
    -- size 4 gets 3; size 5 does not; size 512 passes; 513 gets 3: each refusal with its place
    ∷ received (0x7E ∷ 0x04 ∷ 0x00 ∷ []) (refusal 3 3 ∷ []) idle
    ∷ received (0x7E ∷ 0x05 ∷ 0x00 ∷ []) [] (after_size 5)
    ∷ received (0x7E ∷ 0x00 ∷ 0x02 ∷ []) [] (after_size 512)
    ∷ received (0x7E ∷ 0x01 ∷ 0x02 ∷ []) (refusal 3 3 ∷ []) idle
    -- 5C 5C inside a frame gets 2; 5C 7E there gets 1 and a new frame
    ∷ received (0x7E ∷ 0x5C ∷ 0x5C ∷ []) (refusal 2 3 ∷ []) idle
    ∷ received (0x7E ∷ 0x5C ∷ 0x7E ∷ []) (refusal 1 3 ∷ []) after_start
    -- a message of 10 bytes seals to 1 block; of 11 bytes to 2
    ∷ seals 10 1
    ∷ seals 11 2
    -- session set at 100, 1 minute: valid at 159, run out at 160, run out at 99
    ∷ session 100 1 159 true
    ∷ session 100 1 160 false
    ∷ session 100 1 99 false
    -- command 20 with payload 100 passes, 101 gets 24
    ∷ command 20 (100 ∷ []) Normal Plain (accepted (content 20 (100 ∷ []) []))
    ∷ command 20 (101 ∷ []) Normal Plain (refused 24)
    -- command 0 in normal mode gets 21; command 10 on the member key gets 22
    ∷ command 0 (replicate 98 0) Normal Plain (refused 21)
    ∷ command 10 [] Normal (Keyed Member) (refused 22)
    ∷ []
