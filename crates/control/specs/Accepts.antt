-- Statements about accepted packets; proofs/ proves them.
use Rattle.std.specs.Prelude.{ℕ, ◌+◌, ◌≡◌, true, false, List, length, get_or, drop}
use Rattle.wire.specs.Numbers.{num}
use Rattle.wire.specs.Fields.{Layout, widths, wrong_size, wrong_fields, content_by}
use Rattle.access.specs.declared.Mode.{Mode}
use Rattle.access.specs.declared.Access.{Access}
use Rattle.control.specs.Command.{command_content, command_bytes}
use Rattle.control.specs.Table.{Row, row_of, in_mode, has_mark}
use Rattle.control.specs.declared.Command.{Command}

-- a row permits a payload in a mode, at an access
pub record Permits (r : Row) (q : List ℕ) (m : Mode) (a : Access) : Type 0 where
  pub listed : r.listed ≡ true
  pub mode : in_mode m r.marked ≡ true
  pub level : has_mark a r.marked ≡ true
  pub sized : wrong_size r.payload.size q ≡ false
  pub right : wrong_fields r.payload q ≡ false

-- a packet is accepted
pub record Accepts (p : List ℕ) (m : Mode) (a : Access) : Type 0 where
  pub long : length p ≡ 5 + num 2 3 p
  pub protocol : get_or p 0 0 ≡ 5
  pub permits : Permits (row_of (num 2 1 p)) (drop 5 p) m a

-- a command holds what a layout reads of a payload, under its number
pub record CommandHolds (n : ℕ) (l : Layout) (q : List ℕ) (c : Command) : Type 0 where
  pub content : command_content c q ≡ content_by n l q
  -- its parts leave out no byte behind the fields
  pub whole : command_bytes c q ≡ drop (widths l.fields) q
