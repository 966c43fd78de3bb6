use Rattle.std.proofs.Common.{length, ap, arith}
use Rattle.plan.proofs.Walks.{columns_first}
use Rattle.plan.proofs.columns.ColumnsIterator.next.Goals as goal

pub returns-clause-steps : goal.returns-clause-steps
returns-clause-steps c =
    let s = c.in_ok-first.ensures.steps in
    let first = columns_first c.args.self.now.plan.now c.args.self.now.left.start c.args.self.now.left.end c.next.new.self.start (omega arith) (omega arith) in
    cc

pub returns-clause-goes : goal.returns-clause-goes
returns-clause-goes c =
    let fewer = ap length (returns-clause-steps c) in
    record { on = λ _. (tt, tt, omega arith); keeps = tt; rests = λ _. tt }
