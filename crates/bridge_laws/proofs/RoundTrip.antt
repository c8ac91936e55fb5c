-- The opener of characteristic packets accepts what their sealer wrote. Assumes nothing.
use mathlib.Core.Path.{◌≡◌, refl, ap, ◌∙◌}
use mathlib.Core.Bool.{true}
use mathlib.Core.List.{List}
use Prim.Native.Nat.{ℕ, zero, suc, ◌+◌, ◌*◌, ◌≤◌}
use native.Mathlib.Omega.{arith}
use lib.ListN.{length, get_or}
use borrow.Author.Tests.{le-ltb}
use Rattle.wire.specs.Numbers.{num}
use Rattle.wire.specs.Rules.{first_broken, verdict}
use Rattle.wire.specs.Content.{accepted, refused}
use Rattle.wire.proofs.Rules.{first_right, none_append, judge_pass}
use Rattle.wire.proofs.Writers.{wrote}
use Rattle.access.specs.Level.{level_of, level_number}
use Rattle.access.proofs.Levels.{level_back}
use Rattle.access.specs.declared.Level.{Level}
use Rattle.access.specs.declared.Access.TheVariants.{Keyed}
use Rattle.control.specs.Control.{length_rules, command_rules, control_rules, command_at, control_content}
use Rattle.wire.specs.Refusals.{refusing}
use Rattle.std.specs.Prelude.{Ok, Option}
use Rattle.control.proofs.Reading.{control_accepts}
use Rattle.session.specs.Keys.{key_for, key_for_read, key_bytes}
use Rattle.envelope.specs.Blocks.{outside, sealer_rules, blocks_in}
use Rattle.envelope.specs.Characteristic.{characteristic_text, characteristic_rules, packet_in}
use Rattle.envelope.proofs.Unsealed.{characteristic_number, characteristic_level, characteristic_unsealed, characteristic_whole, late_text, packet_text_lem}
use Rattle.bridge.specs.Place.{place_from}
use Rattle.bridge.specs.Characteristic.{level_key, connection_rules, packet_entry_rules, packet_text, packet_text_rules, packet_open_rules, accepted_command, characteristic_answer_of, characteristic_opened}
use Rattle.bridge_laws.specs.RoundTrip.{SealablePacket, packet_sealed, OpensAgain}
use Rattle.bridge.specs.Opening.{refused_command}
use Rattle.bridge.specs.Content.{characteristic_given}
use Rattle.bridge.proofs.Contents.{opens_packet}
use Rattle.bridge.specs.declared.Link.{Link}

-- an accepted packet breaks no rule
none_broken : (n : ℕ) (p : List ℕ) → verdict refusing n (Ok (command_at p)) ≡ Ok (command_at p) → n ≡ 0
none_broken zero p e = refl
none_broken (suc n) p e = absurd (let z : ◌≡◌ {A = ℕ} 0 1 = cc in omega arith)

module _ (k : Link) (level : Level) (pn packet : List ℕ) (s : SealablePacket k level pn packet) where
  abbrev key : Option (List ℕ)
  key = key_for k.keys k.mode level

  abbrev v : List ℕ
  v = k.connection.validation

  abbrev p : List ℕ
  p = packet_sealed k level pn packet

  permitted : first_broken (control_rules packet k.mode (Keyed level)) ≡ 0
  permitted = none_broken (first_broken (control_rules packet k.mode (Keyed level))) packet s.read

  long : length packet ≡ 5 + num 2 3 packet
  long = (control_accepts packet k.mode (Keyed level) permitted).long

  level_read : level_of (get_or p 3 0) ≡ level_of (level_number level)
  level_read = ap level_of (characteristic_level (key_bytes key) pn k.connection.nonce (level_number level) v packet s.three)

  key_is : level_key k p ≡ key
  key_is = ap (key_for_read k.keys k.mode) (level_read ∙ level_back level)

  text_is : packet_text k p ≡ characteristic_text v packet
  unfolding packet_text
  text_is =
      rw key_is (characteristic_unsealed (key_bytes key) pn k.connection.nonce (level_number level) v packet s.three)

  enters : (room : ℕ) → 16 * blocks_in p ≤ room → first_broken (packet_entry_rules k room p) ≡ 0
  unfolding packet_entry_rules connection_rules
  enters room h =
      rw (
        characteristic_whole (key_bytes key) pn k.connection.nonce (level_number level) v packet s.three s.four s.most,
        le-ltb room (16 * blocks_in p) h,
        key_is,
        s.key,
        s.connection,
        characteristic_number (key_bytes key) pn k.connection.nonce (level_number level) v packet s.three,
        s.differs,
      )

  reads : first_broken (packet_text_rules k (get_or p 3 0) (packet_text k p)) ≡ 0
  unfolding packet_text_rules
  reads =
      rw (text_is, level_read ∙ level_back level)
      (first_right (characteristic_rules v (characteristic_text v packet)) (command_rules (packet_in (characteristic_text v packet)) k.mode (Keyed level)) (late_text v packet s.four long)
      ∙ ap (λ (l : List ℕ). first_broken (command_rules l k.mode (Keyed level))) (packet_text_lem v packet s.four long)
      ∙ (none_append (length_rules packet) (command_rules packet k.mode (Keyed level)) permitted).1)

  packet_is : packet_in (packet_text k p) ≡ packet
  packet_is = ap packet_in text_is ∙ packet_text_lem v packet s.four long

  unbroken : (room : ℕ) → 16 * blocks_in p ≤ room → first_broken (packet_open_rules k room p) ≡ 0
  unfolding packet_open_rules
  unbroken room h = first_right (packet_entry_rules k room p) (packet_text_rules k (get_or p 3 0) (packet_text k p)) (enters room h) ∙ reads

  pub opens_again : OpensAgain k level pn packet
  unfolding characteristic_opened characteristic_answer_of
  opens_again =
      record {
        writes = λ room after answer h w.
            wrote (sealer_rules key (outside 5 492 (length packet)) p room) p room after answer
            (rw (le-ltb (length packet) 5 (omega (arith, long)), le-ltb 492 (length packet) s.most, le-ltb (length room) (0 + length p) (omega arith), s.key)) w;
        answer = λ work h.
            judge_pass refused_command (packet_open_rules k (length work) p) (accepted_command (packet_text k p)) (unbroken (length work) h)
            ∙ ap (λ (l : List ℕ). Ok (command_at l, place_from true 9 (4 + length l))) packet_is;
        content = λ work h.
            (opens_packet k p work refl refl).content
            ∙ judge_pass (λ n. refused (characteristic_given n)) (packet_open_rules k (length work) p) (accepted (control_content (packet_in (packet_text k p)))) (unbroken (length work) h)
            ∙ ap (λ (l : List ℕ). accepted (control_content l)) packet_is;
      }
