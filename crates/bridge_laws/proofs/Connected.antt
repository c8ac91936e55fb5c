-- A connection session that was read from session data opens what was sealed with it. Assumes nothing.
use mathlib.Core.Path.{◌≡◌, ◌∙◌, sym, ap}
use mathlib.Core.List.{List}
use Prim.Native.Nat.{ℕ}
use lib.ListN.{length}
use Rattle.access.specs.Level.{level_number}
use Rattle.access.specs.declared.Level.{Level}
use Rattle.session.specs.Keys.{key_for, key_bytes}
use Rattle.session.specs.Session.{connection_there, with_data}
use Rattle.session.specs.declared.Connection.{Connection}
use Rattle.session.proofs.Kept.{data_there}
use Rattle.envelope.specs.Blocks.{used_again}
use Rattle.envelope.specs.Characteristic.{characteristic_image}
use Rattle.session_data.specs.SessionData.{data_key}
use Rattle.session_data.specs.declared.DataRead.{DataRead}
use Rattle.session_data.proofs.Trip.{reads_back}
use Rattle.bridge.specs.declared.Link.{Link}
use Rattle.bridge_laws.specs.Connected.{block_for, link_after, Connectable, OpensConnected}
use Rattle.bridge_laws.proofs.RoundTrip.{opens_again}

module _ (k : Link) (level : Level) (nonce validation pn packet : List ℕ) (h : Connectable k level nonce validation pn packet) where
  connection_is : (link_after k (block_for k nonce validation)).connection ≡ with_data k.connection nonce validation
  connection_is =
      ap (λ (r : DataRead). r.connection)
      ((reads_back (data_key k.keys k.mode) h.data_bytes).reads nonce validation h.sized h.data_key_there k.connection)

  pub opens_connected : OpensConnected k level nonce validation pn packet
  opens_connected =
      record {
        connection = connection_is;
        sealed = ap (λ (c : Connection). characteristic_image (key_bytes (key_for k.keys k.mode level)) pn c.nonce (level_number level) c.validation packet) (sym connection_is);
        opens = opens_again (link_after k (block_for k nonce validation)) level pn packet
            (record {
              key = h.key;
              connection = ap connection_there connection_is ∙ data_there k.connection nonce validation;
              differs = ap (λ (c : Connection). used_again c.memory pn) connection_is ∙ h.differs;
              three = h.three;
              four = ap (λ (c : Connection). length c.validation) connection_is ∙ h.sized.four;
              most = h.most;
              read = h.read;
            });
      }
