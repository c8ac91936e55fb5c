-- Document 01, 'Cipher and session': level 100 has a key only in setup mode, levels 0, 1 and 2 only in normal mode.
use Rattle.std.specs.Prelude.{ℕ, List, Option, Some, None, replicate, unwrap_or}
use Rattle.access.specs.Level.{level_of}
use Rattle.access.specs.declared.Mode.{Mode}
use Rattle.access.specs.declared.Mode.TheVariants.{Normal, Setup as SetupMode}
use Rattle.access.specs.declared.Level.{Level}
use Rattle.access.specs.declared.Level.TheVariants.{Admin, Member, Basic, Setup}
use Rattle.session.specs.declared.Keys.{Keys}

-- the bytes of a key that is held
abbrev pub key_bytes : Option (List ℕ) → List ℕ
key_bytes key = unwrap_or key (replicate 16 0)

-- the key that serves a level in a mode
abbrev pub key_for : Keys → Mode → Level → Option (List ℕ)
key_for k Normal Admin = k.admin
key_for k Normal Member = k.member
key_for k Normal Basic = k.basic
key_for k Normal Setup = None
key_for k SetupMode Admin = None
key_for k SetupMode Member = None
key_for k SetupMode Basic = None
key_for k SetupMode Setup = k.setup

-- the key that serves a level that was read in a mode, no key where none was
abbrev pub key_for_read : Keys → Mode → Option Level → Option (List ℕ)
key_for_read k m (Some l) = key_for k m l
key_for_read k m None = None

-- the key that serves the level with a number in a mode, no key where no level has it
abbrev pub key_for_number : Keys → Mode → ℕ → Option (List ℕ)
key_for_number k m n = key_for_read k m (level_of n)
