-- A session's validity: the test in whole minutes, the numbers it stands for, and document 01's example. Assumes nothing.
use mathlib.Core.Path.{◌≡◌, refl, sym, ◌∙◌}
use mathlib.Core.Bool.{Bool, true, false, ◌&&◌}
use mathlib.Core.List.{[], ◌∷◌}
use Prim.Native.Nat.{ℕ, ◌-◌, ◌*◌, ◌/◌, ◌≤◌, ◌<◌}
use native.Mathlib.Omega.{arith}
use lib.Dec.{ltb}
use borrow.Author.Tests.{ltb-true, ltb-false, le-leb, lt-leb, lt-ltb, le-ltb}
use Rattle.wire.proofs.Choice.{and_false}
use Rattle.units.specs.declared.Seconds.{Seconds}
use Rattle.session.specs.declared.Session.{Session}
use Rattle.session.specs.Session.{no_session, session_there, memory_after, with_nonce, valid_at}

-- x seconds hold fewer than t whole minutes where they are fewer than 60 t
whole_minutes_lem : (x t : ℕ) → ltb (x / 60) t ≡ ltb x (60 * t)
whole_minutes_lem x t = by (ltb (x / 60) t) refl
  where
    by : (b : Bool) → ltb (x / 60) t ≡ b → ltb (x / 60) t ≡ ltb x (60 * t)
    by true e =
        let h : x / 60 < t = ltb-true _ _ e in
        e ∙ sym (lt-ltb x (60 * t) (omega arith))
    by false e =
        let h : t ≤ x / 60 = ltb-false _ _ e in
        e ∙ sym (le-ltb x (60 * t) (omega arith))

and_true : (a : Bool) → (a && true) ≡ a
and_true true = refl
and_true false = refl

module _ (s : Session) (now : Seconds) where
  -- a clock behind the set time counts as run out
  pub behind : now.0 < s.since.0 → false ≡ valid_at s now
  unfolding valid_at
  behind h = rw (lt-leb _ _ h) (sym (and_false (session_there s)))

  -- the test in whole minutes: it decides, and then whether there is a session
  pub run_out : s.since.0 ≤ now.0 → s.timeout.0 ≤ (now.0 - s.since.0) / 60 → false ≡ valid_at s now
  unfolding valid_at
  run_out h k = rw (le-leb _ _ h, ← whole_minutes_lem (now.0 - s.since.0) s.timeout.0, le-ltb _ _ k) (sym (and_false (session_there s)))

  pub not_run_out : s.since.0 ≤ now.0 → (now.0 - s.since.0) / 60 < s.timeout.0 → session_there s ≡ valid_at s now
  unfolding valid_at
  not_run_out h k = rw (le-leb _ _ h, ← whole_minutes_lem (now.0 - s.since.0) s.timeout.0, lt-ltb _ _ k) (sym (and_true (session_there s)))

-- ---- set at 100, 1 minute
abbrev set_at_100 : Session
set_at_100 =
    with_nonce no_session (1 ∷ 2 ∷ 3 ∷ 4 ∷ 5 ∷ []) (record { 0 = 1 }) (record { 0 = 100 })

at_159 : valid_at set_at_100 (record { 0 = 159 }) ≡ true
unfolding valid_at session_there memory_after
at_159 = refl

at_160 : valid_at set_at_100 (record { 0 = 160 }) ≡ false
unfolding valid_at session_there memory_after
at_160 = refl

at_99 : valid_at set_at_100 (record { 0 = 99 }) ≡ false
unfolding valid_at session_there memory_after
at_99 = refl
