-- Where the payload of an accepted message or command lies: "a part of the frame's bytes or of the work buffer, whichever it came from".
use Rattle.std.specs.Prelude.{ℕ, ◌-◌, Bool, true, false, List}
use Rattle.wire.specs.Parts.{part, part_of}
use Rattle.bridge.specs.declared.Place.{Place}
use Rattle.bridge.specs.declared.Place.TheVariants.{Frame, Work}

-- the bytes from a place on, of so many in all: in the work buffer, or in the frame's payload
abbrev pub place_from : Bool → ℕ → ℕ → Place
place_from true start end = Work (part start (end - start))
place_from false start end = Frame (part start (end - start))

-- the bytes there, of the slice that holds them
unfoldable pub payload_at : List ℕ → List ℕ → Place → List ℕ
payload_at frame work (Frame p) = part_of frame p
payload_at frame work (Work p) = part_of work p
