-- Document 01's table of refusals, column 'reply'.
use Rattle.std.specs.Prelude.{ℕ, ◌||◌, List, [], ◌∷◌, ltb, eqb, Option, Some, None}
use Rattle.wire.specs.Choice.{pick}
use Rattle.wire.specs.Lookup.{lookup}
use Rattle.wire.specs.Refusals.{number_of}
use Rattle.wire.specs.declared.refusals.Refusal.{Refusal}
use Rattle.bridge.specs.declared.Reply.{Reply}
use Rattle.bridge.specs.declared.Reply.TheVariants.{Error, Code}
use Rattle.bridge.specs.declared.Refused.{Refused}

-- an entry of the column: none, an error type, or a result code
pub data Entry : Type 0 where
  no_reply : Entry
  error : ℕ → Entry
  code : ℕ → Entry

-- a number, and its entry
infix 20 ◌gets◌
pub data Row : Type 0 where
  ◌gets◌ : ℕ → Entry → Row

abbrev pub number_in : Row → ℕ
number_in (n gets r) = n

abbrev pub entry_in : Row → Entry
entry_in (n gets r) = r

abbrev pub replies : List Row
replies =
    (5 gets error 9900)
    ∷ (6 gets error 9900)
    ∷ (7 gets error 9900)
    ∷ (10 gets error 9903)
    ∷ (8 gets error 9902)
    ∷ (9 gets error 9902)
    ∷ (11 gets error 9903)
    ∷ (12 gets error 9900)
    ∷ (13 gets error 9900)
    ∷ (14 gets error 9900)
    ∷ (15 gets error 9901)
    ∷ (16 gets error 9900)
    ∷ (17 gets error 9900)
    ∷ (18 gets code 32)
    ∷ (19 gets code 44)
    ∷ (20 gets code 36)
    ∷ (21 gets code 40)
    ∷ (22 gets code 48)
    ∷ (23 gets code 32)
    ∷ (24 gets code 33)
    ∷ []

-- on the UART; 25, 28 and every other number get none
unfoldable pub entry_of : ℕ → Entry
entry_of n = lookup number_in entry_in no_reply replies n

-- on the characteristic 25 and numbers below 18 get none
unfoldable pub characteristic_entry_of : ℕ → Entry
characteristic_entry_of n = pick (ltb n 18 || eqb n 25) no_reply (entry_of n)

-- ---- the types
-- the entry that each reply is
abbrev pub reply_entry : Option Reply → Entry
reply_entry None = no_reply
reply_entry (Some (Error n)) = error n
reply_entry (Some (Code n)) = code n

-- the reply that an entry is
abbrev pub reply_for : Entry → Option Reply
reply_for no_reply = None
reply_for (error n) = Some (Error n)
reply_for (code n) = Some (Code n)

-- a refusal with its reply, on the UART and on the characteristic
abbrev pub uart_refused : Refusal → Refused
uart_refused r = record { refusal = r; reply = reply_for (entry_of (number_of r)) }

abbrev pub characteristic_refused : Refusal → Refused
characteristic_refused r = record { refusal = r; reply = reply_for (characteristic_entry_of (number_of r)) }
