-- `put_places` meets its contract. Assumes nothing.
use Rattle.text.proofs.Puts.{leaves_less, leaves_none}
use Rattle.session_text.proofs.Places.{places_at, places_past}
use Rattle.session_text.proofs.put_places.Goals as goal

pub loop-nonce-preserved : goal.loop-nonce-preserved
loop-nonce-preserved c = leaves_less c.loop-nonce.invariant (places_at _ _ c.loop-nonce-test.true) c.put_place-behind.ensures

pub returns : goal.returns
returns c = leaves_none c.loop-nonce.invariant (places_past _ _ c.loop-nonce-test.false)
