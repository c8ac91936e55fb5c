-- Two plain messages and a sealed one, noise, and a receiver caught inside a frame: by the claim, and by computing. Assumes nothing.
use mathlib.Core.Path.{◌≡◌, refl, ap, ap₂}
use mathlib.Core.Bool.{true, false}
use mathlib.Core.List.{List, [], ◌∷◌, ◌++◌, zip_with}
use Prim.Native.Nat.{ℕ, ◌*◌, ◌≤◌}
use native.Mathlib.Omega.{arith}
use lib.ListN.{replicate}
use Rattle.wire.specs.Content.{Judged, accepted, Content, content}
use Rattle.wire.specs.Parts.{part_of}
use Rattle.message.specs.Reading.{table_content}
use Rattle.crc.specs.Crc.{crc_from, crc_byte, crc_bit}
use Rattle.frame.specs.Image.{escape, escape_byte, is_mark}
use Rattle.line.specs.Receive.{step_of, busy, mid_frame, in_frame, unescaped, taken, stored, sized, reading, holding}
use Rattle.line.specs.Line as line
use Rattle.line.specs.Line.{refusal, frame, frame_gives, value_gives, escaped_gives, inside_gives, gives, run, after}
use Rattle.line.specs.declared.Receiver.{Receiver}
use Rattle.access.specs.declared.Mode.TheVariants.{Normal}
use Rattle.session.specs.Memory.{empty_memory, limited, remembered}
use Rattle.session.specs.Session.{session_there, valid_at}
use Rattle.aes.specs.Field.{◌•◌, times, xtime}
use Rattle.aes.specs.Box.{sub_byte, affine, turned, inverse, powers}
use Rattle.aes.specs.Cipher.{mixed, rcon, next_key, round_key, from, key_expansion, round, rounds, cipher_under, cipher}
use Rattle.aes.specs.Ctr.{counter_block, keystream, ctr_of}
use Rattle.envelope.specs.Blocks.{blocks_in, enveloped}
use Rattle.envelope.specs.Sealed.{sealed_image, plain_text}
use Rattle.envelope.proofs.Unsealed.{sealed_blocks}
use Rattle.bridge.specs.Opener.{plain_rules, uart_open_rules, answer_of, opened, work_after}
use Rattle.bridge.specs.Place.{payload_at}
use Rattle.bridge.specs.Content.{Given, answer_content}
use Rattle.bridge.specs.declared.Context.{Context}
use Rattle.whole_line.specs.Listed.{Item, plain, sealed, item_message, SentItem, items, Made, wrapped, line_of, Occasion, Ready, AllDiffer, Opening, openings, AllGive}
use Rattle.whole_line.specs.Claim.{Read}
use Rattle.whole_line.proofs.OneWay.{no_line_two_ways}
use Rattle.session.specs.Keys.{key_bytes}
use Rattle.std.specs.Prelude.{None, Some}

-- encryption is required; the session was set at 100, for one minute
abbrev pub g : Context
g =
    record {
      session = record { held = true; nonce = 0x7E ∷ 0x5C ∷ 0x40 ∷ 1 ∷ 2 ∷ []; timeout = record { 0 = 1 }; since = record { 0 = 100 }; memory = empty_memory };
      time = record { 0 = 100 };
      keys =
          record {
            admin = Some (1 ∷ 2 ∷ 3 ∷ 4 ∷ 5 ∷ 6 ∷ 7 ∷ 8 ∷ 9 ∷ 10 ∷ 11 ∷ 12 ∷ 13 ∷ 14 ∷ 15 ∷ 16 ∷ []);
            member = None;
            basic = None;
            setup = None;
          };
      mode = Normal;
      required = true;
    }

-- hello with flags 3; command 20 (switch) with 100; a hub data reply with the bytes 7E and 5C
abbrev pub hello : List ℕ
hello = 0 ∷ 0 ∷ 3 ∷ []

abbrev pub switch : List ℕ
switch = 10 ∷ 0 ∷ 5 ∷ 20 ∷ 0 ∷ 1 ∷ 0 ∷ 100 ∷ []

abbrev pub reply : List ℕ
reply = 11 ∷ 0 ∷ 1 ∷ 0 ∷ 0x7E ∷ 0x5C ∷ []

abbrev pub first : SentItem
first = record { item = plain hello; noise = 0x5C ∷ 0x5C ∷ 0x41 ∷ [] }

abbrev pub second : SentItem
second = record { item = plain reply; noise = [] }

abbrev pub third : SentItem
third = record { item = sealed (0x7E ∷ 8 ∷ 9 ∷ []) switch; noise = 0 ∷ [] }

-- inside a frame, after 5 of its 20 bytes, none of them escaped; two more come before the line
abbrev pub caught : Receiver
caught = holding (reading false 0 7 20 8) (replicate 512 0xEE)

abbrev pub before : List ℕ
before = 1 ∷ 2 ∷ []

-- opened at 159, in the session's last second, with 20 work bytes that hold anything
abbrev at : ℕ → Occasion
at n = record { time = record { 0 = 159 }; work = replicate 20 0xDD }

made : Made g (first ∷ second ∷ third ∷ [])
unfolding session_there
made = (
  record { short = omega arith; long = omega arith; other = λ e. omega arith; clear = refl },
  ((λ e. omega arith), ((λ e. omega arith), ((λ e. omega arith), tt))),
  (
    record { short = omega arith; long = omega arith; other = λ e. omega arith; clear = refl },
    tt,
    (
      (
        record { short = omega arith; long = omega arith; other = λ e. omega arith; clear = refl },
        record { normal = refl; held = refl; there = refl; three = refl },
      ),
      ((λ e. omega arith), tt),
      tt,
    ),
  ),
)

-- one block
room : 16 * blocks_in (wrapped g third.item) ≤ 20
room = omega (arith, sealed_blocks (key_bytes g.keys.admin) (0x7E ∷ 8 ∷ 9 ∷ []) g.session.nonce switch refl)

ready : Ready g at 0 (items (first ∷ second ∷ third ∷ []))
unfolding valid_at session_there
ready = (tt, (tt, ((refl, room), tt)))

-- the session remembers nothing at the start
differ : AllDiffer (remembered g.session.memory) (items (first ∷ second ∷ third ∷ []))
unfolding remembered limited
differ = (tt, (tt, (refl, tt)))

abbrev item_contents : List Item → List (Judged Content Given)
item_contents [] = []
item_contents (i ∷ is) = accepted (table_content (item_message i)) ∷ item_contents is

-- the claim for it
pub reads : Read g (first ∷ second ∷ third ∷ []) (after before caught) at
reads = (no_line_two_ways g).read first (second ∷ third ∷ []) made before caught refl at ready differ

-- ---- and by computing alone
-- the sealed one: packet nonce, key ID, one block (worked out with OpenSSL)
abbrev pub payload : List ℕ
payload = 0x7E ∷ 0x08 ∷ 0x09 ∷ 0x00 ∷ 0x0D ∷ 0x5E ∷ 0xF5 ∷ 0x8E ∷ 0x50 ∷ 0x02 ∷ 0x67 ∷ 0xBB ∷ 0x5F ∷ 0x3C ∷ 0x61 ∷ 0x17 ∷ 0xA0 ∷ 0x38 ∷ 0x63 ∷ 0xCA ∷ []

pub sealed_is : wrapped g third.item ≡ payload
unfolding sealed_image plain_text enveloped ctr_of keystream counter_block cipher cipher_under rounds round key_expansion from round_key next_key rcon mixed sub_byte affine turned inverse powers ◌•◌ times xtime zip_with
sealed_is = refl

-- with another payload in its stead
abbrev line_with : List ℕ → List ℕ
line_with p =
    line.line_of
    (record { wrapper = 0; payload = hello; noise = first.noise }
    ∷ record { wrapper = 0; payload = reply; noise = [] }
    ∷ record { wrapper = 128; payload = p; noise = 0 ∷ [] }
    ∷ [])

-- the whole line
pub on_line_lem : line_of g (first ∷ second ∷ third ∷ [])
    ≡ 0x7E ∷ 0x08 ∷ 0x00 ∷ 0x01 ∷ 0x00 ∷ 0x00 ∷ 0x00 ∷ 0x00 ∷ 0x03 ∷ 0xD3 ∷ 0x7B
    ∷ 0x5C ∷ 0x5C ∷ 0x41
    ∷ 0x7E ∷ 0x0B ∷ 0x00 ∷ 0x01 ∷ 0x00 ∷ 0x00 ∷ 0x0B ∷ 0x00 ∷ 0x01 ∷ 0x00 ∷ 0x5C ∷ 0x3E ∷ 0x5C ∷ 0x1C ∷ 0x68 ∷ 0xF6
    ∷ 0x7E ∷ 0x19 ∷ 0x00 ∷ 0x01 ∷ 0x00 ∷ 0x80 ∷ 0x5C ∷ 0x3E ∷ 0x08 ∷ 0x09 ∷ 0x00 ∷ 0x0D ∷ 0x5E ∷ 0xF5 ∷ 0x8E ∷ 0x50 ∷ 0x02 ∷ 0x67 ∷ 0xBB ∷ 0x5F ∷ 0x3C ∷ 0x61 ∷ 0x17 ∷ 0xA0 ∷ 0x38 ∷ 0x63 ∷ 0xCA ∷ 0x16 ∷ 0xAA ∷ 0x00 ∷ []
unfolding line.line_of escape escape_byte is_mark crc_from crc_byte crc_bit
on_line_lem = ap line_with sealed_is

-- 1 comes first, at the start byte, the eleventh of the frame that it cuts; then the three frames
pub handed_out_lem : run (before ++ line_of g (first ∷ second ∷ third ∷ [])) caught
    ≡ refusal 1 11 ∷ frame 1 0 0 3 hello ∷ frame 1 0 0 6 reply ∷ frame 1 0 128 20 payload ∷ []
unfolding run gives inside_gives escaped_gives value_gives frame_gives step_of busy mid_frame in_frame unescaped taken stored sized part_of line.line_of escape escape_byte is_mark crc_from crc_byte crc_bit
handed_out_lem = ap (λ (p : List ℕ). run (before ++ line_with p) caught) sealed_is

-- what openings give, in order
abbrev pub contents : List Opening → List (Judged Content Given)
contents [] = []
contents (o ∷ os) = answer_content o.answer o.frame o.work ∷ contents os

-- of the two plain ones, by computing
pub plain_contents : contents (openings g at 0 g.session (run (line_of g (first ∷ second ∷ [])) (after before caught)))
    ≡ accepted (content 0 (3 ∷ []) []) ∷ accepted (content 11 (1 ∷ []) ((0x7E ∷ 0x5C ∷ []) ∷ [])) ∷ []
unfolding openings opened answer_of uart_open_rules plain_rules work_after payload_at run gives inside_gives escaped_gives value_gives frame_gives after step_of busy mid_frame in_frame unescaped taken stored sized part_of line.line_of escape escape_byte is_mark crc_from crc_byte crc_bit
plain_contents = refl

-- of all three, by the claim
contents_are : (is : List Item) (os : List Opening) → AllGive is os → contents os ≡ item_contents is
contents_are [] [] ok = refl
contents_are [] (o ∷ os) ok = absurd ok
contents_are (i ∷ is) [] ok = absurd ok
contents_are (i ∷ is) (o ∷ os) ok = ap₂ (λ (x : Judged Content Given) (y : List (Judged Content Given)). x ∷ y) ok.0.content (contents_are is os ok.1)

abbrev opens : List Opening
opens = openings g at 0 g.session (run (line_of g (first ∷ second ∷ third ∷ [])) (after before caught))

pub all_contents : contents opens
    ≡ accepted (content 0 (3 ∷ []) []) ∷ accepted (content 11 (1 ∷ []) ((0x7E ∷ 0x5C ∷ []) ∷ [])) ∷ accepted (content 10 (20 ∷ 100 ∷ []) []) ∷ []
all_contents = contents_are (items (first ∷ second ∷ third ∷ [])) opens reads.gives
