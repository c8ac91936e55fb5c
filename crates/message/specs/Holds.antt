-- An accepted message holds what the tables read from its bytes: the statement; proofs/Meaning.antt proves it.
use Rattle.std.specs.Prelude.{ℕ, ◌≡◌, List, drop}
use Rattle.wire.specs.Numbers.{num}
use Rattle.wire.specs.Fields.{widths}
use Rattle.control.specs.Table.{row_of}
use Rattle.message.specs.Message.{message_content, message_bytes, parts_at}
use Rattle.message.specs.Table.{Body, fields, packet, type_of}
use Rattle.message.specs.Reading.{message_at, table_content}

-- all bytes behind the fields
abbrev pub table_bytes : Body → List ℕ → List ℕ
table_bytes (fields l make) d = drop (widths l.fields) d
table_bytes packet d = drop (widths (row_of (num 2 1 d)).payload.fields) (drop 5 d)

pub record MessageHolds (p : List ℕ) : Type 0 where
  pub content : message_content (message_at p) (drop (parts_at (message_at p)) (drop 2 p)) ≡ table_content p
  -- its parts leave out no byte behind the fields
  pub whole : message_bytes (message_at p) (drop (parts_at (message_at p)) (drop 2 p)) ≡ table_bytes (type_of (num 2 0 p)).body (drop 2 p)
