-- Reading what was written gives the command back: the statement; proofs/Trip.antt proves it.
use Rattle.std.specs.Prelude.{ℕ, ◌≡◌, List, drop, Ok}
use Rattle.access.specs.declared.Mode.{Mode}
use Rattle.access.specs.declared.Access.{Access}
use Rattle.control.specs.Command.{command_content}
use Rattle.control.specs.Control.{command_at, read_control}
use Rattle.control.specs.declared.Command.{Command}

-- a packet is read, and its command holds what the written one holds: number, values, and each part's bytes
pub record ReadsBack (c : Command) (s p : List ℕ) (m : Mode) (a : Access) : Type 0 where
  pub content : command_content (command_at p) (drop 5 p) ≡ command_content c s
  pub answer : read_control p m a ≡ Ok (command_at p)
