-- Calls at the lines that are left end where calls at all lines do.
use Rattle.std.proofs.Common.{Ok, length}
use Rattle.std.specs.Fn.{CalledAt}
use Rattle.std.specs.List.{FoldsTo}
use Rattle.console.specs.Lines.{lines}
use Rattle.console.proofs.each_line.Given as goal

abbrev pub invariant-loop-line : goal.invariant-loop-line
invariant-loop-line g l =
    goal.F-IsAlwaysCallable g l.f
    × ((last : _) → FoldsTo (λ p x q. CalledAt g.F.FnMut p x (Ok tt) q) l.f (lines l.rest) last → FoldsTo (λ p x q. CalledAt g.F.FnMut p x (Ok tt) q) l.fn.f (lines l.fn.s) last)

abbrev pub decreases-loop-line : goal.decreases-loop-line
decreases-loop-line g l = length l.rest
