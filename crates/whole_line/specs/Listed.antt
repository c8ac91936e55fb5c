-- The list of demand 3: messages in their forms, which of them are permitted, the line that they make, and the openings.
use Rattle.std.specs.Prelude.{ℕ, suc, ◌*◌, ◌≤◌, ◌≡◌, true, false, List, [], ◌∷◌, length, take, is_some, Result, Ok}
use Rattle.wire.specs.Numbers.{num}
use Rattle.wire.specs.Rules.{first_broken, among}
use Rattle.wire.specs.Content.{accepted}
use Rattle.wire.specs.Writing.{Writes}
use Rattle.wire.specs.declared.refusals.Refusal.{Refusal}
use Rattle.frame.specs.Image.{image}
use Rattle.frame.specs.Writer.{bad_frame}
use Rattle.line.specs.Line as line
use Rattle.access.specs.declared.Mode.TheVariants.{Normal}
use Rattle.message.specs.Reading.{message_rules, table_content}
use Rattle.message.specs.declared.Form.{Form}
use Rattle.message.specs.declared.Form.TheVariants.{Plain, Encrypted}
use Rattle.session.specs.Memory.{in_front}
use Rattle.session.specs.Session.{session_there, valid_at}
use Rattle.session.specs.declared.Session.{Session}
use Rattle.units.specs.declared.Seconds.{Seconds}
use Rattle.envelope.specs.Blocks.{outside, Seals, blocks_in, nonce_number}
use Rattle.envelope.specs.Sealed.{sealed_image}
use Rattle.bridge.specs.Content.{answer_content, Answer}
use Rattle.bridge.specs.Opener.{admin_key, opened, work_after}
use Rattle.bridge.specs.declared.Context.{Context}
use Rattle.session.specs.Keys.{key_bytes}

-- ---- the list
-- a message in its form: plain, or encrypted with a packet nonce
pub data Item : Type 0 where
  plain : List ℕ → Item
  sealed : List ℕ → List ℕ → Item

abbrev pub item_message : Item → List ℕ
item_message (plain m) = m
item_message (sealed pn m) = m

-- an item, and the noise behind its frame
pub record SentItem : Type 0 where
  pub item : Item
  pub noise : List ℕ

abbrev pub items : List SentItem → List Item
items [] = []
items (t ∷ ts) = t.item ∷ items ts

-- ---- permitted. A context holds keys, mode and whether encryption is required, and the session in use
abbrev pub data_type : List ℕ → ℕ
data_type m = num 2 0 m

-- a message in a form, of 2 bytes to so many
pub record Permitted (g : Context) (f : Form) (most : ℕ) (m : List ℕ) : Type 0 where
  pub short : 2 ≤ length m
  pub long : length m ≤ most
  -- no session nonce
  pub other : data_type m ≡ 1 → ⊥
  -- in that form none of 14 to 24 applies
  pub clear : first_broken (message_rules f g.required g.mode m) ≡ 0

-- what an encrypted one asks besides: normal mode, the admin key held, a session there; a packet nonce has three bytes
pub record Sealable (g : Context) (pn : List ℕ) : Type 0 where
  pub normal : g.mode ≡ Normal
  pub held : is_some g.keys.admin ≡ true
  pub there : session_there g.session ≡ true
  pub three : length pn ≡ 3

abbrev pub PermittedItem : Context → Item → Type 0
PermittedItem g (plain m) = Permitted g Plain 507 m
PermittedItem g (sealed pn m) = Permitted g Encrypted 490 m × Sealable g pn

-- each is permitted, and there is no 7E in the noise
abbrev pub Made : Context → List SentItem → Type 0
Made g [] = Unit {0}
Made g (t ∷ ts) = PermittedItem g t.item × line.NoStart t.noise × Made g ts

-- ---- the line
abbrev pub wrapper_of : Item → ℕ
wrapper_of (plain m) = 0
wrapper_of (sealed pn m) = 128

-- the sealer gets that session's nonce
abbrev pub wrapped : Context → Item → List ℕ
wrapped g (plain m) = m
wrapped g (sealed pn m) = sealed_image (key_bytes (admin_key g)) pn g.session.nonce m

-- what is put on the line
abbrev pub on_line : Context → List SentItem → List line.SentFrame
on_line g [] = []
on_line g (t ∷ ts) = record { wrapper = wrapper_of t.item; payload = wrapped g t.item; noise = t.noise } ∷ on_line g ts

abbrev pub line_of : Context → List SentItem → List ℕ
line_of g ts = line.line_of (on_line g ts)

-- given room, neither writer refuses: what the sealer's and the frame writer's contracts leave of their answer and of the room
abbrev pub Sealed : Context → Item → Type 0
Sealed g (plain m) = Unit {0}
Sealed g (sealed pn m) =
    (room after : List ℕ) (answer : Result ℕ Refusal) → length (wrapped g (sealed pn m)) ≤ length room
    → Seals (admin_key g) (outside 2 490 (length m)) (wrapped g (sealed pn m)) room answer after
    → (answer ≡ Ok (length (wrapped g (sealed pn m)))) × (take (length (wrapped g (sealed pn m))) after ≡ wrapped g (sealed pn m))

abbrev pub Framed : Context → Item → Type 0
Framed g i =
    (room after : List ℕ) (answer : Result ℕ Refusal) → length (image (wrapper_of i) (wrapped g i)) ≤ length room
    → Writes (bad_frame (wrapper_of i) (length (wrapped g i))) (image (wrapper_of i) (wrapped g i)) room answer after
    → (answer ≡ Ok (length (image (wrapper_of i) (wrapped g i)))) × (take (length (image (wrapper_of i) (wrapped g i))) after ≡ image (wrapper_of i) (wrapped g i))

abbrev pub AllWritten : Context → List Item → Type 0
AllWritten g [] = Unit {0}
AllWritten g (i ∷ is) = Sealed g i × Framed g i × AllWritten g is

-- ---- the openings
-- the circumstances of one: the time now, and the work buffer, which may hold anything
pub record Occasion : Type 0 where
  pub time : Seconds
  pub work : List ℕ

-- for an encrypted one the session is valid at that time, and there is room for its blocks
abbrev pub Fit : Context → Occasion → Item → Type 0
Fit g o (plain m) = Unit {0}
Fit g o (sealed pn m) = (valid_at g.session o.time ≡ true) × (16 * blocks_in (wrapped g (sealed pn m)) ≤ length o.work)

abbrev pub Ready : Context → (ℕ → Occasion) → ℕ → List Item → Type 0
Ready g at n [] = Unit {0}
Ready g at n (i ∷ is) = Fit g (at n) i × Ready g at (suc n) is

-- what is remembered after an item (document 02 §6): an encrypted one's packet nonce is put in front, and eight are kept
abbrev pub remembered_after : List ℕ → Item → List ℕ
remembered_after ns (plain m) = ns
remembered_after ns (sealed pn m) = in_front (nonce_number pn) ns

-- an encrypted one's packet nonce is none of these
abbrev pub Differs : List ℕ → Item → Type 0
Differs ns (plain m) = Unit {0}
Differs ns (sealed pn m) = among (nonce_number pn) ns ≡ false

-- each, of those remembered at its turn; ns are those before the first
abbrev pub AllDiffer : List ℕ → List Item → Type 0
AllDiffer ns [] = Unit {0}
AllDiffer ns (i ∷ is) = Differs ns i × AllDiffer (remembered_after ns i) is

-- the context of an opening: keys, mode and setting as in g, the session and the time its own
abbrev pub during : Context → Session → Seconds → Context
during g s t = record { session = s; time = t; keys = g.keys; mode = g.mode; required = g.required }

-- an opening: the frame's payload as it was handed out, the answer, and the work buffer after it
pub record Opening : Type 0 where
  pub frame : List ℕ
  pub answer : Answer
  pub work : List ℕ

-- the frames are opened in order, from their bytes as handed out, each with the session that came back from the last
unfoldable pub openings : Context → (ℕ → Occasion) → ℕ → Session → List line.Emitted → List Opening
openings g at n s [] = []
openings g at n s (line.refusal k place ∷ es) = openings g at n s es
openings g at n s (line.frame major minor wrapper len p ∷ es) =
    let h : Context = during g s (at n).time in
    let work : List ℕ = (at n).work in
    record { frame = p; answer = (opened h (length work) major wrapper p).answer; work = work_after h major wrapper p work }
    ∷ openings g at (suc n) (opened h (length work) major wrapper p).session es

-- a frame gives its message
pub record Gives (i : Item) (o : Opening) : Type 0 where
  -- accepted with that message's data type and every field that the tables read from its data, each part of the bytes handed on among them
  pub content : answer_content o.answer o.frame o.work ≡ accepted (table_content (item_message i))

-- each its own: as many openings as messages, place by place
abbrev pub AllGive : List Item → List Opening → Type 0
AllGive [] [] = Unit {0}
AllGive [] (o ∷ os) = ⊥
AllGive (i ∷ is) [] = ⊥
AllGive (i ∷ is) (o ∷ os) = Gives i o × AllGive is os
