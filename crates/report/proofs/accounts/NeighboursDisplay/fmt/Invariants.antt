use Rattle.std.proofs.Common.{◌-◌}
use Rattle.std.specs.List.{filter}
use Rattle.sheet.specs.Patterns.{linked_in}
use Rattle.sheet.specs.Views.{pattern_of}
use Rattle.report.specs.Accounts.{labels, spaced}
use Rattle.report.proofs.Turns.{SoFar}
use Rattle.report.proofs.accounts.NeighboursDisplay.fmt.Given as goal

abbrev pub invariant-loop-other : goal.invariant-loop-other
invariant-loop-other g l =
    SoFar g.W.Write.write_str_gives l.initial.f (spaced (filter (linked_in (pattern_of l.self.0.now).links l.self.1) (labels (l.other-counter - 1)))) l.f
