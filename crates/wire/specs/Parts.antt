-- A part of a slice.
use Rattle.std.specs.Prelude.{ℕ, ◌+◌, List, [], length, take, drop, leb}
use Rattle.wire.specs.Choice.{pick}
use Rattle.wire.specs.declared.Part.{Part}

abbrev pub part : ℕ → ℕ → Part
part start len = record { start = start; len = len }

-- the bytes that a part names, none where it runs past the end
unfoldable pub part_of : List ℕ → Part → List ℕ
part_of s p = pick (leb (p.start + p.len) (length s)) (take p.len (drop p.start s)) []
