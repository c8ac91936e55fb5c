-- `put_places` meets its contract. Assumes nothing.
use lib.ListN.{drop}
use Rattle.text.proofs.Puts.{Leaves}
use Rattle.session_text.specs.Memory.{places_text}
use Rattle.session_text.proofs.put_places.Given as goal

abbrev pub invariant-loop-nonce : goal.invariant-loop-nonce
invariant-loop-nonce l = Leaves (places_text l.places) l.at l.initial.out (places_text (drop l.nonce-index l.places)) l.behind l.out
