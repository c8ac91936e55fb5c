-- `session::Session::valid_at` meets its contract. Assumes nothing.
use mathlib.Core.Path.{◌∙◌}
use Rattle.session.proofs.Validity.{behind, run_out, not_run_out}
use Rattle.session.proofs.Session.valid_at.Goals as goal

pub returns-then-now-self : goal.returns-then-now-self
returns-then-now-self c = let a = c.args in behind a.self a.now c.if-now-self.true

pub returns-then-passed-self : goal.returns-then-passed-self
returns-then-passed-self c =
    let a = c.args in
    c.is_there.ensures
    ∙ not_run_out a.self a.now c.if-now-self.false
    (rw c.whole_minutes-passed.ensures at c.if-passed-self.true)

pub returns : goal.returns
returns c =
    let a = c.args in
    run_out a.self a.now c.if-now-self.false
    (rw c.whole_minutes-passed.ensures at c.if-passed-self.false)
