-- `length_of` meets its contract. Assumes nothing.
use mathlib.Core.Path.{ap, ◌∙◌}
use native.Mathlib.Omega.{arith}
use Rattle.capture.specs.Entry.{payload_length}
use Rattle.capture.proofs.Packing.{length_below}
use Rattle.capture.proofs.entries.length_of.Goals as goal

pub returns : goal.returns
returns c =
    let e = c.payload_length.ensures ∙ ap payload_length c.event_of.ensures in
    (e, omega (arith, e, length_below c.args.entry))
