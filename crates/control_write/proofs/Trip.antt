-- What the writer of control packets wrote is read back, every command at once. Assumes nothing.
use mathlib.Core.Path.{◌≡◌, refl, sym, ap, subst, ◌∙◌}
use Prim.Native.Nat.{ℕ}
use mathlib.Core.Bool.{true, false, ◌||◌}
use mathlib.Core.List.{List}
use native.Mathlib.Omega.{arith}
use lib.ListN.{length, take}
use lib.Seq.{take_at, drop_at}
use lib.Dec.{eqb, ltb}
use lib.IntN.{ℤ}
use mir.Syntax.{w8}
use mir.Val.{SFits}
use borrow.Author.Tests.{eqb-true, not-false}
use Rattle.wire.specs.Numbers.{num}
use Rattle.wire.specs.Rules.{first_broken, verdict}
use Rattle.wire.specs.Parts.{part_of}
use Rattle.wire.specs.Fields.{tail_parts, content_by, each_part, past, any_past, same_lengths, unreadable}
use Rattle.wire.specs.Writing.{Writes}
use Rattle.std.specs.Prelude.{Result, Ok}
use Rattle.wire.specs.declared.refusals.Refusal.{Refusal}
use Rattle.wire.proofs.Choice.{and_holds, or_fails}
use Rattle.wire.proofs.Content.{same_content}
use Rattle.wire.proofs.Held.{held}
use Rattle.wire.proofs.Fields.{Readable, readable, part_length}
use Rattle.wire.proofs.Signed.{signed_unsigned}
use Rattle.wire.proofs.Writers.{wrote_back}
use Rattle.access.specs.declared.Mode.{Mode}
use Rattle.access.specs.declared.Access.{Access}
use Rattle.control.specs.Command.{command_number, command_values, command_parts, command_bytes}
use Rattle.control.specs.Table.{AMB, row_of}
use Rattle.control.specs.Control.{mark_rules, control_rules, command_of, command_at, read_control}
use Rattle.control.specs.declared.TrackedDeviceFields.{TrackedDeviceFields}
use Rattle.control.specs.declared.Command.{Command}
use Rattle.control.specs.declared.Command.TheVariants.{Setup, FactoryReset, GetState, SetState, BootloaderVersion, UicrData, IbeaconConfig, Reset, GotoDfu, NoOperation, Disconnect, Switch, MultiSwitch, RegisterTrackedDevice, TrackedDeviceHeartbeat, GetPresence, GetUptime}
use Rattle.wire.specs.Refusals.{refusing}
use Rattle.control.specs.Accepts.{Permits, Accepts}
use Rattle.control.proofs.Reading.{control_clear}
use Rattle.control.proofs.Meaning.{packet_content}
use Rattle.control_write.specs.Image.{packet_image, row_for, payload_image, control_image, reread, command_bad}
use Rattle.control_write.specs.RoundTrip.{ReadsBack}

-- every command has a row
listed : (c : Command) → (row_for c).listed ≡ true
listed (Setup f) = refl
listed FactoryReset = refl
listed (GetState f) = refl
listed (SetState f) = refl
listed BootloaderVersion = refl
listed UicrData = refl
listed (IbeaconConfig f) = refl
listed Reset = refl
listed GotoDfu = refl
listed NoOperation = refl
listed Disconnect = refl
listed (Switch v) = refl
listed (MultiSwitch f) = refl
listed (RegisterTrackedDevice f) = refl
listed (TrackedDeviceHeartbeat f) = refl
listed GetPresence = refl
listed GetUptime = refl

-- a command's parts, one behind the other, are cut into the same parts by its row
parts_apart : (c : Command) (s : List ℕ) → any_past s (command_parts c) ≡ false → same_lengths (command_parts c) (command_parts (reread c s)) ≡ true
    → tail_parts (row_for c).payload.tail (command_bytes c s) ≡ each_part s (command_parts c)
parts_apart (Setup f) s w l =
    let k = part_of s f.keys in
    let n = part_length s f.keys (or_fails (past s f.keys) (past s f.rest || false) w).0 in
    let e = eqb-true f.keys.len 96 (and_holds (eqb f.keys.len 96) _ l).0 in
    rw (take_at k (part_of s f.rest) 96 (omega arith), drop_at k (part_of s f.rest) 96 (omega arith))
parts_apart FactoryReset s w l = refl
parts_apart (GetState f) s w l = refl
parts_apart (SetState f) s w l = refl
parts_apart BootloaderVersion s w l = refl
parts_apart UicrData s w l = refl
parts_apart (IbeaconConfig f) s w l = refl
parts_apart Reset s w l = refl
parts_apart GotoDfu s w l = refl
parts_apart NoOperation s w l = refl
parts_apart Disconnect s w l = refl
parts_apart (Switch v) s w l = refl
parts_apart (MultiSwitch f) s w l = refl
parts_apart (RegisterTrackedDevice f) s w l = refl
parts_apart (TrackedDeviceHeartbeat f) s w l = refl
parts_apart GetPresence s w l = refl
parts_apart GetUptime s w l = refl

number_back : (n : ℕ) (q : List ℕ) → num 2 1 (packet_image n q) ≡ n
number_back n q = omega arith

module _ (c : Command) (s : List ℕ) (m : Mode) (a : Access) (good : command_bad c s ≡ false) (may : first_broken (mark_rules (row_for c).marked m a) ≡ 0) where
  made : Readable (row_for c).payload (command_values c) (command_parts c) (command_parts (reread c s)) s
  made =
      readable (row_for c).payload (command_values c) (command_parts c) (command_parts (reread c s)) s
      (or_fails (unreadable (row_for c).payload (command_values c) (command_parts c) (command_parts (reread c s)) s) (ltb 65535 (length (payload_image c s))) good).0

  permitted : Permits (row_for c) (payload_image c s) m a
  permitted =
      let h = held (mark_rules (row_for c).marked m a) (tt, (tt, tt)) may in
      record { listed = listed c; mode = not-false _ h.0; level = not-false _ h.1.0; sized = made.sized; right = made.right }

  accepts : Accepts (control_image c s) m a
  accepts =
      record {
        long = omega arith;
        protocol = refl;
        permits = subst (λ (k : ℕ). Permits (row_of k) (payload_image c s) m a) (sym (number_back (command_number c) (payload_image c s))) permitted;
      }

  pub unbroken : first_broken (control_rules (control_image c s) m a) ≡ 0
  unbroken = control_clear (control_image c s) m a accepts

  pub reads_back : ReadsBack c s (control_image c s) m a
  reads_back =
      let p = control_image c s in
      let l = (row_for c).payload in
      record {
        content =
            packet_content p m a unbroken
            ∙ ap (λ (k : ℕ). content_by k (row_of k).payload (payload_image c s)) (number_back (command_number c) (payload_image c s))
            ∙ same_content refl made.values (ap (tail_parts l.tail) made.behind ∙ parts_apart c s made.within made.alike);
        answer = ap (λ (n : ℕ). verdict refusing n (Ok (command_at p))) unbroken;
      }

  -- the command that is read is the one that its row makes of the written numbers
  pub reread_is : command_at (control_image c s) ≡ reread c s
  reread_is =
      let q = payload_image c s in
      ap (λ (k : ℕ). command_of (row_of k) q) (number_back (command_number c) q) ∙ ap (λ (vs : List ℕ). (row_for c).make vs (length q)) made.values

-- a tracked device is read as it was given, its offset signed
pub device_back : (f : TrackedDeviceFields) (s : List ℕ) (m : Mode) (a : Access) → SFits w8 f.offset → command_bad (RegisterTrackedDevice f) s ≡ false
    → first_broken (mark_rules AMB m a) ≡ 0 → read_control (control_image (RegisterTrackedDevice f) s) m a ≡ Ok (RegisterTrackedDevice f)
device_back f s m a fits good may =
    let c = RegisterTrackedDevice f in
    (reads_back c s m a good may).answer ∙ ap Ok (reread_is c s m a good may)
    ∙ ap (λ (z : ℤ). Ok (RegisterTrackedDevice (record { device = f.device; location = f.location; profile = f.profile; offset = z; flags = f.flags; token = f.token; ttl = f.ttl }))) (signed_unsigned f.offset fits)

-- what stands at the front of the room, when the writer answers that it wrote
pub wrote_reads : (c : Command) (s room after : List ℕ) (r : Result ℕ Refusal) (n : ℕ) (m : Mode) (a : Access)
    → Writes (command_bad c s) (control_image c s) room r after → r ≡ Ok n → first_broken (mark_rules (row_for c).marked m a) ≡ 0
    → ReadsBack c s (take n after) m a
wrote_reads c s room after r n m a w e may = wrote_back (λ (p : List ℕ). ReadsBack c s p m a) (λ good. reads_back c s m a good may) n w e
