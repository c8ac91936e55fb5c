-- Two rules before the cipher broken at once: the first in the order is given. Assumes nothing.
use mathlib.Core.Path.{◌≡◌, refl}
use mathlib.Core.Bool.{true, false}
use mathlib.Core.List.{[], ◌∷◌}
use Prim.Native.Nat.{ℕ}
use lib.ListN.{replicate}
use Rattle.wire.specs.Rules.{first_broken}
use Rattle.access.specs.declared.Mode.TheVariants.{Normal}
use Rattle.std.specs.Prelude.{Some, None}
use Rattle.session.specs.Memory.{limited, remembered}
use Rattle.session.specs.Session.{session_there, valid_at}
use Rattle.bridge.specs.Opener.{session_rules}
use Rattle.bridge.specs.declared.Context.{Context}

-- a session of one minute from 100 on, which remembers the packet nonce 01 02 03, at a time
abbrev at : ℕ → Context
at time =
    record {
      session = record {
        held = true;
        nonce = replicate 5 1;
        timeout = record { 0 = 1 };
        since = record { 0 = 100 };
        memory = record { count = 1; nonces = 0x030201 ∷ replicate 7 0 };
      };
      time = record { 0 = time };
      keys = record { admin = Some (replicate 16 7); member = None; basic = None; setup = None };
      mode = Normal;
      required = false;
    }

-- 28, and 9 before it
example_again : first_broken (session_rules (at 159) (1 ∷ 2 ∷ 3 ∷ 0 ∷ [])) ≡ 28
unfolding session_rules session_there valid_at limited remembered
example_again = refl

example_run_out : first_broken (session_rules (at 160) (1 ∷ 2 ∷ 3 ∷ 0 ∷ [])) ≡ 9
unfolding session_rules session_there valid_at limited remembered
example_run_out = refl
