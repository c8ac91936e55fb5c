-- An encrypted message with padding of another writer, by computing: what is supposed of it can be met, and no part of it reaches the padding.
-- Assumes nothing.
use Prim.Native.Nat.{ℕ, ◌*◌}
use native.Mathlib.Omega.{arith}
use mathlib.Core.Path.{◌≡◌, refl, ap, ◌∙◌}
use mathlib.Core.Bool.{true}
use mathlib.Core.List.{List, [], ◌∷◌, ◌++◌}
use lib.ListN.{drop, replicate}
use Rattle.wire.specs.Content.{accepted, content}
use Rattle.access.specs.declared.Mode.TheVariants.{Normal}
use Rattle.message.specs.declared.Form.TheVariants.{Encrypted}
use Rattle.message.proofs.Accepts.{message_accepts}
use Rattle.session.specs.Memory.{empty_memory, limited, remembered}
use Rattle.session.specs.Session.{session_there, valid_at}
use Rattle.envelope.specs.Blocks.{blocks_in}
use Rattle.envelope.specs.Sealed.{unpadded, sealed_with}
use Rattle.envelope.proofs.Envelopes.{length_enveloped}
use Rattle.bridge.specs.Opener.{admin_key, work_after}
use Rattle.bridge.specs.declared.Context.{Context}
use Rattle.bridge_laws.specs.Padding.{Fills, padded_with, content_given, PermittedMessage, ComesThrough}
use Rattle.bridge_laws.proofs.Padding.{any_padding}
use Rattle.session.specs.Keys.{key_bytes}
use Rattle.std.specs.Prelude.{Some, None}

-- the session was set at 100, for one minute
abbrev g : Context
g =
    record {
      session = record { held = true; nonce = replicate 5 1; timeout = record { 0 = 1 }; since = record { 0 = 100 }; memory = empty_memory };
      time = record { 0 = 159 };
      keys = record { admin = Some (replicate 16 1); member = None; basic = None; setup = None };
      mode = Normal;
      required = true;
    }

abbrev pn : List ℕ
pn = 7 ∷ 8 ∷ 9 ∷ []

-- set state of type 300, with the value D8 D9: 15 bytes
abbrev set_state : List ℕ
set_state = 10 ∷ 0 ∷ 5 ∷ 3 ∷ 0 ∷ 8 ∷ 0 ∷ 44 ∷ 1 ∷ 0 ∷ 0 ∷ 1 ∷ 0 ∷ 0xD8 ∷ 0xD9 ∷ []

-- none of it is zero
abbrev padding : List ℕ
padding = 0xDA ∷ 0xDB ∷ 0xDC ∷ 0xDD ∷ 0xDE ∷ 0xDF ∷ 0xFF ∷ 0x7E ∷ 0x5C ∷ 1 ∷ 2 ∷ []

-- as many bytes as fill: 11 of them; of 4 bytes 6, of 10 none, of 11 bytes 15
fills : Fills set_state padding
fills = refl

fills_6 : Fills (2 ∷ 0 ∷ 44 ∷ 1 ∷ []) (replicate 6 0xFF)
fills_6 = refl

fills_none : Fills (11 ∷ 0 ∷ replicate 8 7) []
fills_none = refl

fills_15 : Fills (11 ∷ 0 ∷ replicate 9 7) (replicate 15 0xFF)
fills_15 = refl

permitted : PermittedMessage g pn set_state
unfolding session_there valid_at limited remembered
permitted =
    record { key = refl; session = refl; valid = refl; differs = refl; most = omega arith; message = message_accepts Encrypted true Normal set_state refl }

abbrev work : List ℕ
work = replicate 33 0xEE

two_blocks : 16 * blocks_in (padded_with g pn set_state padding) ≡ 32
unfolding sealed_with
two_blocks = omega (arith, length_enveloped (key_bytes (admin_key g)) pn g.session.nonce 0 (unpadded set_state ++ padding) refl)

through : ComesThrough g pn set_state padding work
through = (any_padding g).through pn set_state padding work refl fills permitted (omega (arith, two_blocks))

-- command 3, its fields, and its value without a byte of the padding
value : content_given g 1 (padded_with g pn set_state padding) work ≡ accepted (content 10 (3 ∷ 300 ∷ 0 ∷ 1 ∷ 0 ∷ []) ((0xD8 ∷ 0xD9 ∷ []) ∷ []))
value = through.content

-- the padding stands behind the message as it came
left : work_after g 1 128 (padded_with g pn set_state padding) work ≡ 0xBE ∷ 0xBA ∷ 0xFE ∷ 0xCA ∷ 15 ∷ 0 ∷ (set_state ++ (padding ++ (0xEE ∷ [])))
left = through.leaves ∙ ap (λ (n : ℕ). (unpadded set_state ++ padding) ++ drop n work) two_blocks
