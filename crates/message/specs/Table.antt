-- The table of data types ('Messages', first table): a row each.
use Rattle.std.specs.Prelude.{ℕ, ◌-◌, Bool, true, false, List, [], ◌∷◌, get_or}
use Rattle.wire.specs.Lookup.{lookup}
use Rattle.wire.specs.Parts.{part}
use Rattle.wire.specs.Fields.{Layout, layout, exactly, at_least, any, up_to, nothing, free}
use Rattle.access.specs.declared.Access.{Access}
use Rattle.access.specs.declared.Access.TheVariants.{Plain as PlainAccess, Keyed}
use Rattle.access.specs.declared.Level.TheVariants.{Admin}
use Rattle.message.specs.declared.Form.{Form}
use Rattle.message.specs.declared.Form.TheVariants.{Plain, Encrypted}
use Rattle.message.specs.declared.forms.Allowed.{Allowed}
use Rattle.message.specs.declared.forms.Allowed.TheVariants.{PlainOnly, Either, EncryptedWhenRequired}
use Rattle.message.specs.declared.Message.{Message}
use Rattle.message.specs.declared.Message.TheVariants.{Hello, SessionNonce, Heartbeat, Status, GetMac, HubReply}

-- ---- forms
-- plain where encryption is required
abbrev pub plain_where_required : Allowed → Form → Bool → Bool
plain_where_required PlainOnly f required = false
plain_where_required Either f required = false
plain_where_required EncryptedWhenRequired Plain required = required
plain_where_required EncryptedWhenRequired Encrypted required = false

-- encrypted where plain only
abbrev pub encrypted_where_plain_only : Allowed → Form → Bool
encrypted_where_plain_only PlainOnly Plain = false
encrypted_where_plain_only PlainOnly Encrypted = true
encrypted_where_plain_only Either f = false
encrypted_where_plain_only EncryptedWhenRequired f = false

-- a message's level is admin
abbrev pub access_of : Form → Access
access_of Plain = PlainAccess
access_of Encrypted = Keyed Admin

-- ---- rows
-- the data: fields, of whose numbers and the data's length the message is made; or a control packet
pub data Body : Type 0 where
  fields : Layout → (List ℕ → ℕ → Message) → Body
  packet : Body

pub record Row : Type 0 where
  pub listed : Bool
  pub number : ℕ
  pub allowed : Allowed
  pub body : Body

abbrev pub row : ℕ → Allowed → Body → Row
row n k b = record { listed = true; number = n; allowed = k; body = b }

-- flags: bits 4 to 7 zero
abbrev pub table : List Row
table =
    row 0 PlainOnly (fields (layout (exactly 1) (up_to 1 15 ∷ []) nothing) (λ v n. Hello (get_or v 0 0)))
    ∷ row 1 PlainOnly (fields (layout (exactly 6) (any 1 ∷ any 1 ∷ any 1 ∷ any 1 ∷ any 1 ∷ any 1 ∷ []) nothing)
    (λ v n. SessionNonce (record { timeout = record { 0 = get_or v 0 0 }; nonce = get_or v 1 0 ∷ get_or v 2 0 ∷ get_or v 3 0 ∷ get_or v 4 0 ∷ get_or v 5 0 ∷ [] })))
    ∷ row 2 Either (fields (layout (exactly 2) (any 2 ∷ []) nothing) (λ v n. Heartbeat (record { 0 = get_or v 0 0 })))
    ∷ row 3 Either (fields (layout (exactly 11) (up_to 1 1 ∷ up_to 1 15 ∷ []) free)
    (λ v n. Status (record { kind = get_or v 0 0; flags = get_or v 1 0; «data» = part 2 9 })))
    ∷ row 4 PlainOnly (fields (layout (exactly 0) [] nothing) (λ v n. GetMac))
    ∷ row 10 EncryptedWhenRequired packet
    ∷ row 11 Either (fields (layout (at_least 2) (any 2 ∷ []) free) (λ v n. HubReply (record { code = get_or v 0 0; «data» = part 2 (n - 2) })))
    ∷ []

-- what a data type that is not listed gets: 14 refuses it before the rest is asked
abbrev pub no_row : Row
no_row = record { listed = false; number = 0; allowed = Either; body = packet }

abbrev pub type_of : ℕ → Row
type_of n = lookup (λ (r : Row). r.number) (λ (r : Row). r) no_row table n
