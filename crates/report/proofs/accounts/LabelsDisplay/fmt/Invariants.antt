use Rattle.std.proofs.Common.{take}
use Rattle.report.specs.Accounts.{spaced}
use Rattle.report.proofs.Turns.{SoFar}
use Rattle.report.proofs.accounts.LabelsDisplay.fmt.Given as goal

abbrev pub invariant-loop-label : goal.invariant-loop-label
invariant-loop-label g l = SoFar g.W.Write.write_str_gives l.initial.f (spaced (take l.label-index l.label-items)) l.f
