-- What a writer of control packets writes, and what it refuses.
use Rattle.std.specs.Prelude.{ℕ, Bool, ◌||◌, List, ◌∷◌, ◌++◌, length, ltb, Result}
use Rattle.wire.specs.Numbers.{le}
use Rattle.wire.specs.Fields.{body_of, unreadable}
use Rattle.wire.specs.Writing.{Writes}
use Rattle.wire.specs.declared.refusals.Refusal.{Refusal}
use Rattle.control.specs.Command.{command_number, command_values, command_parts}
use Rattle.control.specs.Table.{Row, row_of}
use Rattle.control.specs.declared.Command.{Command}

-- protocol, command type, size, payload
abbrev pub packet_image : ℕ → List ℕ → List ℕ
packet_image n q = 5 ∷ (le 2 n ++ (le 2 (length q) ++ q))

-- a command's row of the table
abbrev pub row_for : Command → Row
row_for c = row_of (command_number c)

-- its payload, of its numbers and of the bytes that its parts name in s
abbrev pub payload_image : Command → List ℕ → List ℕ
payload_image c s = body_of (row_for c).payload (command_values c) (command_parts c) s

abbrev pub control_image : Command → List ℕ → List ℕ
control_image c s = packet_image (command_number c) (payload_image c s)

-- the command that its reader would make of it
abbrev pub reread : Command → List ℕ → Command
reread c s = (row_for c).make (command_values c) (length (payload_image c s))

-- 17: what its reader would refuse, or a payload longer than the size field counts
abbrev pub command_bad : Command → List ℕ → Bool
command_bad c s =
    unreadable (row_for c).payload (command_values c) (command_parts c) (command_parts (reread c s)) s || ltb 65535 (length (payload_image c s))

-- 17: what its reader would refuse, a payload longer than the size field counts, or one longer than a limit
abbrev pub bad_within : ℕ → Command → List ℕ → Bool
bad_within limit c s = command_bad c s || ltb limit (length (payload_image c s))

-- what a writer answers and leaves that puts the packet behind other bytes and keeps its payload within a limit
abbrev pub WritesBehind : List ℕ → ℕ → Command → List ℕ → List ℕ → Result ℕ Refusal → List ℕ → Type 0
WritesBehind front limit c s room answer after = Writes (bad_within limit c s) (front ++ control_image c s) room answer after
