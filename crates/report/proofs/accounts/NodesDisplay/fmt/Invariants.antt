use Rattle.std.proofs.Common.{◌-◌}
use Rattle.std.specs.List.{flat_map}
use Rattle.sheet.specs.Views.{pattern_of}
use Rattle.report.specs.Accounts.{labels, node_line}
use Rattle.report.proofs.Turns.{SoFar}
use Rattle.report.proofs.accounts.NodesDisplay.fmt.Given as goal

abbrev pub invariant-loop-label : goal.invariant-loop-label
invariant-loop-label g l =
    SoFar g.W.Write.write_str_gives l.initial.f (flat_map (node_line (pattern_of l.self.0.now)) (labels (l.label-counter - 1))) l.f
