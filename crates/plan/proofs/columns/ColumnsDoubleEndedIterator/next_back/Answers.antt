use Rattle.std.proofs.Common.{length, ap, arith, length-append}
use Rattle.plan.proofs.Walks.{columns_last}
use Rattle.plan.proofs.columns.ColumnsDoubleEndedIterator.next_back.Goals as goal

pub returns-clause-steps : goal.returns-clause-steps
returns-clause-steps c =
    let s = c.in_ok-last.ensures.steps in
    let last = columns_last c.args.self.now.plan.now c.args.self.now.left.start c.args.self.now.left.end c.next_back.new.self.end (omega arith) (omega arith) in
    cc

pub returns-clause-goes : goal.returns-clause-goes
returns-clause-goes c =
    let fewer = simp length-append at (ap length (returns-clause-steps c)) in
    record { on = λ _. (tt, tt, omega arith); keeps = tt; rests = λ _. tt }
