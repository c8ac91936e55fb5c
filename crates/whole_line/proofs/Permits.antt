-- A permitted message for each data type but the session nonce and for each command, and what it holds: 'permitted' is empty at no row of the tables.
-- Assumes nothing.
use mathlib.Core.Path.{◌≡◌, refl, sym}
use mathlib.Core.Bool.{Bool, true, false, not, ◌&&◌}
use mathlib.Core.List.{List, [], ◌∷◌}
use Prim.Native.Nat.{ℕ}
use lib.ListN.{length, replicate}
use lib.Dec.{leb, eqb}
use borrow.Author.Tests.{leb-true, eqb-true, eqb-false, not-true}
use Rattle.wire.proofs.Choice.{and_holds, true_false}
use Rattle.wire.specs.Rules.{first_broken}
use Rattle.wire.specs.Content.{Content, content}
use Rattle.access.specs.declared.Mode.{Mode}
use Rattle.access.specs.declared.Mode.TheVariants.{Normal, Setup}
use Rattle.message.specs.Reading.{message_rules, table_content}
use Rattle.message.specs.declared.Form.{Form}
use Rattle.message.specs.declared.Form.TheVariants.{Plain, Encrypted}
use Rattle.session.specs.Memory.{empty_memory}
use Rattle.session.specs.Session.{session_there}
use Rattle.bridge.specs.declared.Context.{Context}
use Rattle.whole_line.specs.Listed.{Item, plain, sealed, item_message, data_type, Permitted, PermittedItem}
use Rattle.whole_line.specs.Bench.{packet_of}
use Rattle.std.specs.Prelude.{Some, None, is_some}

-- an admin key and a session, a mode, and whether encryption is required
abbrev pub context_in : Mode → Bool → Context
context_in mode required =
    record {
      session = record { held = true; nonce = replicate 5 1; timeout = record { 0 = 1 }; since = record { 0 = 100 }; memory = empty_memory };
      time = record { 0 = 159 };
      keys = record { admin = Some (replicate 16 1); member = None; basic = None; setup = None };
      mode = mode;
      required = required;
    }

-- a context, an item, and what its message holds
pub record Case : Type 0 where
  pub context : Context
  pub item : Item
  pub holds : Content

abbrev pub AllPermitted : List Case → Type 0
AllPermitted [] = Unit {0}
AllPermitted (c ∷ cs) = PermittedItem c.context c.item × AllPermitted cs

abbrev pub contents_read : List Case → List Content
contents_read [] = []
contents_read (c ∷ cs) = table_content (item_message c.item) ∷ contents_read cs

abbrev pub contents_listed : List Case → List Content
contents_listed [] = []
contents_listed (c ∷ cs) = c.holds ∷ contents_listed cs

abbrev in_plain : Mode → Bool → List ℕ → Content → Case
in_plain mode required m t = record { context = context_in mode required; item = plain m; holds = t }

-- in normal mode, where encryption is required
abbrev pn : List ℕ
pn = 7 ∷ 8 ∷ 9 ∷ []

abbrev encrypted : List ℕ → Content → Case
encrypted m t = record { context = context_in Normal true; item = sealed pn m; holds = t }

abbrev control : ℕ → List ℕ → List ℕ
control n q = 10 ∷ 0 ∷ packet_of n q

abbrev pub cases : List Case
cases =
    in_plain Normal true (0 ∷ 0 ∷ 15 ∷ []) (content 0 (15 ∷ []) [])
    ∷ in_plain Setup true (2 ∷ 0 ∷ 1 ∷ 2 ∷ []) (content 2 (513 ∷ []) [])
    ∷ encrypted (2 ∷ 0 ∷ 1 ∷ 2 ∷ []) (content 2 (513 ∷ []) [])
    ∷ encrypted (3 ∷ 0 ∷ 1 ∷ 2 ∷ replicate 9 7) (content 3 (1 ∷ 2 ∷ []) (replicate 9 7 ∷ []))
    ∷ in_plain Normal true (4 ∷ 0 ∷ []) (content 4 [] [])
    ∷ encrypted (11 ∷ 0 ∷ 1 ∷ 1 ∷ 8 ∷ 9 ∷ []) (content 11 (257 ∷ []) ((8 ∷ 9 ∷ []) ∷ []))
    ∷ in_plain Setup false (control 0 (7 ∷ 8 ∷ replicate 97 6)) (content 10 (0 ∷ 7 ∷ 8 ∷ []) (replicate 96 6 ∷ (6 ∷ []) ∷ []))
    ∷ encrypted (control 1 (0xEF ∷ 0xBE ∷ 0xAD ∷ 0xDE ∷ [])) (content 10 (1 ∷ 0xDEADBEEF ∷ []) [])
    ∷ in_plain Normal false (control 2 (1 ∷ 0 ∷ 2 ∷ 0 ∷ 2 ∷ 0 ∷ [])) (content 10 (2 ∷ 1 ∷ 2 ∷ 2 ∷ 0 ∷ []) [])
    ∷ encrypted (control 3 (1 ∷ 0 ∷ 2 ∷ 0 ∷ 1 ∷ 0 ∷ 4 ∷ 5 ∷ [])) (content 10 (3 ∷ 1 ∷ 2 ∷ 1 ∷ 0 ∷ []) ((4 ∷ 5 ∷ []) ∷ []))
    ∷ in_plain Setup false (control 4 []) (content 10 (4 ∷ []) [])
    ∷ encrypted (control 5 []) (content 10 (5 ∷ []) [])
    ∷ encrypted (control 6 (1 ∷ 1 ∷ 0 ∷ 0 ∷ 0 ∷ 2 ∷ 0 ∷ [])) (content 10 (6 ∷ 1 ∷ 1 ∷ 2 ∷ []) [])
    ∷ encrypted (control 10 []) (content 10 (10 ∷ []) [])
    ∷ encrypted (control 11 []) (content 10 (11 ∷ []) [])
    ∷ in_plain Normal false (control 12 []) (content 10 (12 ∷ []) [])
    ∷ encrypted (control 13 []) (content 10 (13 ∷ []) [])
    ∷ in_plain Setup false (control 20 (100 ∷ [])) (content 10 (20 ∷ 100 ∷ []) [])
    ∷ encrypted (control 21 (2 ∷ 7 ∷ 100 ∷ 8 ∷ 0 ∷ [])) (content 10 (21 ∷ 2 ∷ []) ((7 ∷ 100 ∷ 8 ∷ 0 ∷ []) ∷ []))
    ∷ encrypted (control 70 (2 ∷ 1 ∷ 3 ∷ 4 ∷ 197 ∷ 5 ∷ 6 ∷ 7 ∷ 8 ∷ 160 ∷ 5 ∷ [])) (content 10 (70 ∷ 258 ∷ 3 ∷ 4 ∷ 197 ∷ 5 ∷ 526086 ∷ 1440 ∷ []) [])
    ∷ in_plain Normal false (control 71 (2 ∷ 1 ∷ 3 ∷ 6 ∷ 7 ∷ 8 ∷ 60 ∷ [])) (content 10 (71 ∷ 258 ∷ 3 ∷ 526086 ∷ 60 ∷ []) [])
    ∷ in_plain Normal false (control 72 []) (content 10 (72 ∷ []) [])
    ∷ encrypted (control 80 []) (content 10 (80 ∷ []) [])
    ∷ []

-- what is asked of an item, as one test
abbrev fits : Context → Form → ℕ → List ℕ → Bool
fits g f most m = leb 2 (length m) && (leb (length m) most && (not (eqb (data_type m) 1) && eqb (first_broken (message_rules f g.required g.mode m)) 0))

abbrev is_normal : Mode → Bool
is_normal Normal = true
is_normal Setup = false

abbrev may : Context → Item → Bool
may g (plain m) = fits g Plain 507 m
may g (sealed n m) =
    fits g Encrypted 490 m && (is_normal g.mode && (is_some g.keys.admin && (session_there g.session && eqb (length n) 3)))

permitted : (g : Context) (f : Form) (most : ℕ) (m : List ℕ) → fits g f most m ≡ true → Permitted g f most m
permitted g f most m e =
    let a = and_holds (leb 2 (length m)) _ e in
    let b = and_holds (leb (length m) most) _ a.1 in
    let c = and_holds (not (eqb (data_type m) 1)) _ b.1 in
    record {
      short = leb-true 2 (length m) a.0;
      long = leb-true (length m) most b.0;
      other = eqb-false (data_type m) 1 (not-true _ c.0);
      clear = eqb-true _ 0 c.1;
    }

normal : (m : Mode) → is_normal m ≡ true → m ≡ Normal
normal Normal e = refl
normal Setup e = true_false (sym e)

pub permitted_item : (g : Context) (i : Item) → may g i ≡ true → PermittedItem g i
permitted_item g (plain m) e = permitted g Plain 507 m e
permitted_item g (sealed n m) e =
    let a = and_holds (fits g Encrypted 490 m) _ e in
    let b = and_holds (is_normal g.mode) _ a.1 in
    let c = and_holds (is_some g.keys.admin) _ b.1 in
    let d = and_holds (session_there g.session) _ c.1 in
    (permitted g Encrypted 490 m a.0, record { normal = normal g.mode b.0; held = c.0; there = d.0; three = eqb-true (length n) 3 d.1 })

abbrev all : List Case → Bool
all [] = true
all (c ∷ cs) = may c.context c.item && all cs

each : (cs : List Case) → all cs ≡ true → AllPermitted cs
each [] e = tt
each (c ∷ cs) e = let a = and_holds (may c.context c.item) (all cs) e in (permitted_item c.context c.item a.0, each cs a.1)

-- every case is permitted
pub permits : AllPermitted cases
unfolding session_there
permits = each cases refl

-- and holds what stands beside it
pub all_hold : contents_read cases ≡ contents_listed cases
all_hold = refl
