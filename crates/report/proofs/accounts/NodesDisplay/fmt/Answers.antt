use Rattle.std.proofs.Common.{arith}
use Rattle.report.proofs.Labels.{each_more}
use Rattle.report.proofs.Turns.{so_far_more}
use Rattle.report.proofs.accounts.NodesDisplay.fmt.Goals as goal

pub loop-label-preserved : goal.loop-label-preserved
loop-label-preserved g c =
    so_far_more _ {h = c.writeln.new.self} (each_more _ c.loop-label.label-counter _ (omega arith) (omega arith)) c.loop-label.invariant c.in_ok-writeln.ensures.writes

pub returns-in_ok-writeln-clause-writes : goal.returns-in_ok-writeln-clause-writes
returns-in_ok-writeln-clause-writes g c = λ p ok.
    so_far_more _ {h = c.writeln.new.self} (each_more _ c.loop-label.label-counter _ (omega arith) (omega arith)) c.loop-label.invariant c.in_ok-writeln.ensures.writes p
