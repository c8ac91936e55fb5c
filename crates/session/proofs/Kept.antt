-- A session that remembers one more packet nonce is there and valid as before, and remembers it in front of the others, eight in all. Assumes nothing.
use mathlib.Core.Path.{◌≡◌, refl, ap, ap₂, sym, ◌∙◌}
use mathlib.Core.Bool.{Bool, true, false, ◌&&◌}
use mathlib.Core.List.{List, [], ◌∷◌}
use Prim.Native.Nat.{ℕ, ◌-◌, ◌*◌}
use lib.Dec.{leb, ltb}
use lib.ListN.{replicate}
use Rattle.wire.specs.Choice.{pick}
use Rattle.wire.specs.Same.{same_bytes}
use Rattle.wire.proofs.Choice.{and_holds}
use Rattle.wire.proofs.Same.{same_self}
use Rattle.units.specs.declared.Minutes.{Minutes}
use Rattle.units.specs.declared.Seconds.{Seconds}
use Rattle.session.specs.Memory.{empty_memory, count_fits, remembered, limited, in_front, remembering}
use Rattle.session.specs.Session.{memory_after, session_there, with_nonce, valid_at, session_remembering, connection_there, with_data, connection_remembering}
use Rattle.session.specs.declared.NonceMemory.{NonceMemory}
use Rattle.session.specs.declared.Session.{Session}
use Rattle.session.specs.declared.Connection.{Connection}
use Rattle.session.proofs.Remembered.{one_more_fits, remembers_one}

-- the memory alone changes, and only where there is a session
pub session_with : (s : Session) (n : ℕ) {b : Bool} {m : NonceMemory} → b ≡ session_there s → m ≡ pick b (remembering s.memory n) s.memory
    → record { held = s.held; nonce = s.nonce; timeout = s.timeout; since = s.since; memory = m } ≡ session_remembering s n
unfolding session_remembering
session_with s n {b = true} e q = rw (← e, q) refl
session_with s n {b = false} e q = rw (← e, q) refl

pub connection_with : (c : Connection) (n : ℕ) {b : Bool} {m : NonceMemory} → b ≡ connection_there c → m ≡ pick b (remembering c.memory n) c.memory
    → record { held = c.held; nonce = c.nonce; validation = c.validation; memory = m } ≡ connection_remembering c n
unfolding connection_remembering
connection_with c n {b = true} e q = rw (← e, q) refl
connection_with c n {b = false} e q = rw (← e, q) refl

module _ (s : Session) (n : ℕ) (there : session_there s ≡ true) where
  session_is : session_remembering s n ≡ record { held = s.held; nonce = s.nonce; timeout = s.timeout; since = s.since; memory = remembering s.memory n }
  unfolding session_remembering
  session_is = rw there

  pub session_nonce : (session_remembering s n).nonce ≡ s.nonce
  session_nonce = ap (λ (x : Session). x.nonce) session_is

  pub session_there_lem : session_there (session_remembering s n) ≡ true
  unfolding session_there
  session_there_lem = ap session_there session_is ∙ rw (and_holds s.held (count_fits s.memory) there).0 (one_more_fits s.memory n)

  pub session_valid : (t : Seconds) → valid_at (session_remembering s n) t ≡ valid_at s t
  unfolding valid_at
  session_valid t =
      ap₂ (λ (b : Bool) (x : Session). b && (leb x.since.0 t.0 && ltb (t.0 - x.since.0) (60 * x.timeout.0))) (session_there_lem ∙ sym there) session_is

  pub session_remembers : remembered (session_remembering s n).memory ≡ in_front n (remembered s.memory)
  session_remembers = ap (λ (x : Session). remembered x.memory) session_is ∙ remembers_one s.memory n

module _ (c : Connection) (n : ℕ) (there : connection_there c ≡ true) where
  connection_is : connection_remembering c n ≡ record { held = c.held; nonce = c.nonce; validation = c.validation; memory = remembering c.memory n }
  unfolding connection_remembering
  connection_is = rw there

  pub connection_there_lem : connection_there (connection_remembering c n) ≡ true
  unfolding connection_there
  connection_there_lem = ap connection_there connection_is ∙ rw (and_holds c.held (count_fits c.memory) there).0 (one_more_fits c.memory n)

  pub connection_remembers : remembered (connection_remembering c n).memory ≡ in_front n (remembered c.memory)
  connection_remembers = ap (λ (x : Connection). remembered x.memory) connection_is ∙ remembers_one c.memory n

-- an accepted session nonce that equals the one held keeps the memory
pub memory_kept : (held : List ℕ) (m : NonceMemory) (nonce : List ℕ) → nonce ≡ held → memory_after true held m nonce ≡ m
unfolding memory_after
memory_kept held m nonce e = rw (e, same_self held)

-- after an accepted session nonce, and after accepted session data, there is a session, whatever was there
memory_fits : (there : Bool) (held : List ℕ) (m : NonceMemory) (nonce : List ℕ) → (there ≡ true → count_fits m ≡ true) → count_fits (memory_after there held m nonce) ≡ true
unfolding memory_after
memory_fits there held m nonce h = go (there && same_bytes held nonce) refl
  where
    go : (b : Bool) → (there && same_bytes held nonce) ≡ b → count_fits (pick b m empty_memory) ≡ true
    go true e = h (and_holds there (same_bytes held nonce) e).0
    go false e = refl

pub nonce_there : (s : Session) (nonce : List ℕ) (timeout : Minutes) (now : Seconds) → session_there (with_nonce s nonce timeout now) ≡ true
unfolding session_there
nonce_there s nonce timeout now = memory_fits (session_there s) s.nonce s.memory nonce (λ e. (and_holds s.held (count_fits s.memory) e).1)

pub data_there : (c : Connection) (nonce validation : List ℕ) → connection_there (with_data c nonce validation) ≡ true
unfolding connection_there
data_there c nonce validation = memory_fits (connection_there c) c.nonce c.memory nonce (λ e. (and_holds c.held (count_fits c.memory) e).1)

-- so it is valid by its timeout alone
pub nonce_valid : (s : Session) (nonce : List ℕ) (timeout : Minutes) (set now : Seconds)
    → valid_at (with_nonce s nonce timeout set) now ≡ leb set.0 now.0 && ltb (now.0 - set.0) (60 * timeout.0)
unfolding valid_at
nonce_valid s nonce timeout set now = rw (nonce_there s nonce timeout set)

-- ---- examples
-- nine, one behind the other: the first is not remembered any more
abbrev nine : NonceMemory
nine = remembering (remembering (remembering (remembering (remembering (remembering (remembering (remembering (remembering empty_memory 1) 2) 3) 4) 5) 6) 7) 8) 9

eight_kept : remembered nine ≡ 9 ∷ 8 ∷ 7 ∷ 6 ∷ 5 ∷ 4 ∷ 3 ∷ 2 ∷ []
unfolding remembering remembered limited
eight_kept = refl

-- a count of 9 is taken as fresh
abbrev outside : NonceMemory
outside = record { count = 9; nonces = replicate 8 5 }

none_kept : remembered outside ≡ []
unfolding remembered limited
none_kept = refl

abbrev holding : NonceMemory → Session
holding m = record { held = true; nonce = 1 ∷ 2 ∷ 3 ∷ 4 ∷ 5 ∷ []; timeout = record { 0 = 1 }; since = record { 0 = 100 }; memory = m }

-- so the session is none, and remembering leaves it as it is
is_none : session_there (holding outside) ≡ false
unfolding session_there
is_none = refl

stays : session_remembering (holding outside) 7 ≡ holding outside
unfolding session_remembering session_there
stays = refl

-- the nonce held keeps the memory, another empties it, and so does the one held where the session is none
abbrev after : NonceMemory → List ℕ → NonceMemory
after m nonce = (with_nonce (holding m) nonce (record { 0 = 1 }) (record { 0 = 999 })).memory

same_nonce : after nine (1 ∷ 2 ∷ 3 ∷ 4 ∷ 5 ∷ []) ≡ nine
unfolding memory_after session_there remembering limited
same_nonce = refl

other_nonce : after nine (1 ∷ 2 ∷ 3 ∷ 4 ∷ 6 ∷ []) ≡ empty_memory
unfolding memory_after session_there remembering limited
other_nonce = refl

of_none : after outside (1 ∷ 2 ∷ 3 ∷ 4 ∷ 5 ∷ []) ≡ empty_memory
unfolding memory_after session_there
of_none = refl
