-- Demand 2's conditions of a message in its form, in a mode; proofs/Accepts.antt proves that 14 to 24 test just these.
use Rattle.std.specs.Prelude.{ℕ, ◌≤◌, ◌≡◌, Bool, true, false, List, length, drop}
use Rattle.wire.specs.Numbers.{num}
use Rattle.wire.specs.Fields.{Layout, wrong_size, wrong_fields}
use Rattle.access.specs.declared.Mode.{Mode}
use Rattle.control.specs.Accepts.{Accepts}
use Rattle.message.specs.Table.{Body, fields, packet, type_of, plain_where_required, encrypted_where_plain_only, access_of}
use Rattle.message.specs.declared.Form.{Form}

-- data of fields
pub record AcceptsFields (l : Layout) (d : List ℕ) : Type 0 where
  pub sized : wrong_size l.size d ≡ false
  pub right : wrong_fields l d ≡ false

-- or a control packet: size, protocol, command, mode, access and payload
abbrev pub AcceptsBody : Body → Form → Mode → List ℕ → Type 0
AcceptsBody (fields l make) f mode d = AcceptsFields l d
AcceptsBody packet f mode d = Accepts d mode (access_of f)

pub record AcceptsMessage (f : Form) (required : Bool) (mode : Mode) (m : List ℕ) : Type 0 where
  -- a data type that is listed
  pub typed : 2 ≤ length m
  pub listed : (type_of (num 2 0 m)).listed ≡ true
  -- not plain where encryption is required
  pub plain_permitted : plain_where_required (type_of (num 2 0 m)).allowed f required ≡ false
  -- not encrypted where plain only
  pub encrypted_permitted : encrypted_where_plain_only (type_of (num 2 0 m)).allowed f ≡ false
  pub body : AcceptsBody (type_of (num 2 0 m)).body f mode (drop 2 m)
