-- Any cutting of a characteristic packet is assembled and opened as the packet. Assumes nothing.
use Prim.Native.Nat.{ℕ}
use mathlib.Core.Path.{◌≡◌, subst, ap, ◌∙◌}
use mathlib.Core.Bool.{true}
use mathlib.Core.List.{List}
use Rattle.access.specs.declared.Level.{Level}
use Rattle.multipart.specs.Cutting.{Cuts}
use Rattle.multipart.specs.Delivery.{ready}
use Rattle.multipart.specs.declared.Assembler.{Assembler}
use Rattle.multipart.proofs.Delivery.{assembles, stands}
use Rattle.bridge.specs.Characteristic.{OpensPacket}
use Rattle.bridge.specs.declared.Link.{Link}
use Rattle.bridge.specs.declared.OpenedCommand.{OpenedCommand}
use Rattle.bridge_laws.specs.RoundTrip.{SealablePacket, packet_sealed}
use Rattle.bridge_laws.specs.Assembled.{OpensAssembled, OpensSealed}
use Rattle.bridge_laws.proofs.RoundTrip.{opens_again}

module _ (ds : List (List ℕ)) (a : Assembler) (e : ready a.progress ≡ true) where
  pub opens_assembled : (packet : List ℕ) → Cuts packet ds → OpensAssembled packet ds a
  opens_assembled packet c =
      record {
        delivers = assembles packet ds a c e;
        same = stands packet ds a c e;
        opens = λ k work left r o. subst (λ (l : List ℕ). OpensPacket k l work r left) (stands packet ds a c e) o;
      }

  pub opens_sealed : (k : Link) (level : Level) (pn packet : List ℕ) → SealablePacket k level pn packet → Cuts (packet_sealed k level pn packet) ds
      → OpensSealed k level pn packet ds a
  opens_sealed k level pn packet s c =
      let p = packet_sealed k level pn packet in
      let sealed = opens_again k level pn packet s in
      record {
        delivers = assembles p ds a c e;
        opens = λ work left r h o.
            let w = (opens_assembled p c).opens k work left r o in
            let same = ap (λ (q : OpenedCommand). q.answer) w.opens in
            (same ∙ sealed.answer work h, rw (same, w.leaves) (sealed.content work h));
      }
