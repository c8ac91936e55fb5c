-- Document 01, 'Cipher and session': the user's session and the connection's. Document 02 §6: the packet nonces that each remembers.
use Rattle.std.specs.Prelude.{ℕ, ◌-◌, ◌*◌, ◌/◌, Bool, true, false, ◌&&◌, List, leb, ltb, replicate}
use Rattle.wire.specs.Choice.{pick}
use Rattle.wire.specs.Same.{same_bytes}
use Rattle.units.specs.declared.Minutes.{Minutes}
use Rattle.units.specs.declared.Seconds.{Seconds}
use Rattle.session.specs.Memory.{empty_memory, count_fits, remembering}
use Rattle.session.specs.declared.NonceMemory.{NonceMemory}
use Rattle.session.specs.declared.Session.{Session}
use Rattle.session.specs.declared.Connection.{Connection}

-- the memory after an accepted session nonce: emptied, unless it equals the one held; where there is no session, no nonce is held
unfoldable pub memory_after : Bool → List ℕ → NonceMemory → List ℕ → NonceMemory
memory_after there old memory nonce = pick (there && same_bytes old nonce) memory empty_memory

-- ---- the user's session
abbrev pub no_session : Session
no_session =
    record { held = false; nonce = replicate 5 0; timeout = record { 0 = 0 }; since = record { 0 = 0 }; memory = empty_memory }

-- one whose count lies outside is taken as none
unfoldable pub session_there : Session → Bool
session_there s = s.held && count_fits s.memory

-- after an accepted session nonce message: nonce, timeout, and the time now
abbrev pub with_nonce : Session → List ℕ → Minutes → Seconds → Session
with_nonce s nonce timeout now =
    record { held = true; nonce = nonce; timeout = timeout; since = now; memory = memory_after (session_there s) s.nonce s.memory nonce }

-- there is a session, now is at least the set time, and now minus set time is below 60 times the timeout
unfoldable pub valid_at : Session → Seconds → Bool
valid_at s now = session_there s && (leb s.since.0 now.0 && ltb (now.0 - s.since.0) (60 * s.timeout.0))

-- minutes that have passed whole
abbrev pub whole_minutes : Seconds → Minutes
whole_minutes t = record { 0 = t.0 / 60 }

-- with the number of a packet nonce remembered, and nothing else changed; one that is none stays as it is
unfoldable pub session_remembering : Session → ℕ → Session
session_remembering s n =
    pick (session_there s) (record { held = s.held; nonce = s.nonce; timeout = s.timeout; since = s.since; memory = remembering s.memory n }) s

-- ---- the connection session, which does not run out
abbrev pub no_connection : Connection
no_connection = record { held = false; nonce = replicate 5 0; validation = replicate 4 0; memory = empty_memory }

unfoldable pub connection_there : Connection → Bool
connection_there c = c.held && count_fits c.memory

-- after accepted session data (document 02 §3): its session nonce and validation key
abbrev pub with_data : Connection → List ℕ → List ℕ → Connection
with_data c nonce validation =
    record { held = true; nonce = nonce; validation = validation; memory = memory_after (connection_there c) c.nonce c.memory nonce }

unfoldable pub connection_remembering : Connection → ℕ → Connection
connection_remembering c n =
    pick (connection_there c) (record { held = c.held; nonce = c.nonce; validation = c.validation; memory = remembering c.memory n }) c
