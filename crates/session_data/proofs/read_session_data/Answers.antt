-- `read_session_data` meets its contract. Assumes nothing.
use mathlib.Core.Path.{◌∙◌, sym, ap}
use mathlib.Core.List.{List}
use Prim.Native.Nat.{ℕ}
use Rattle.std.specs.Prelude.{Result}
use Rattle.wire.specs.declared.refusals.Refusal.{Refusal}
use Rattle.session_data.specs.SessionData.{data_key, text_of, data_read_rules, data_read}
use Rattle.session_data.proofs.Judging.{read_as, read_as_by, reads_data}
use Rattle.session_data.proofs.read_session_data.Goals as goal

pub returns-in-Ok : goal.returns-in-Ok
unfolding data_read read_as
returns-in-Ok c =
    let a = c.args in
    let key = data_key a.keys a.mode in
    reads_data key a.old a.block.now _
    (rw c.connect.ensures (ap (λ (r : Result (List ℕ) Refusal). read_as r a.old) (sym c.in-Ok.is ∙ c.text_of.ensures))
    ∙ read_as_by (data_read_rules key a.block.now) a.old (text_of key a.block.now))

pub returns-in-Err : goal.returns-in-Err
unfolding data_read read_as
returns-in-Err c =
    let a = c.args in
    let key = data_key a.keys a.mode in
    reads_data key a.old a.block.now _
    (ap (λ (r : Result (List ℕ) Refusal). read_as r a.old) (sym c.in-Err.is ∙ c.text_of.ensures)
    ∙ read_as_by (data_read_rules key a.block.now) a.old (text_of key a.block.now))
