-- `session::Session::none` meets its contract. Assumes nothing.
use borrow.Author.Rules.{rules}
use Rattle.session.proofs.Session.none.Statement.{statement}
use Rattle.session.proofs.Session.none.Tie as tie

pub none_spec : {M : Type 1} → statement M
none_spec = tie.close (tie.spec (λ c κs. search rules) (λ c. rw c.empty.ensures))
