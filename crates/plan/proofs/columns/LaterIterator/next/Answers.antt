use Rattle.std.proofs.Common.{subst}
use Rattle.plan.specs.Positions.{Positions}
use Rattle.plan.specs.Views.{arrays_of}
use Rattle.plan.proofs.Walks.{positions_more}
use Rattle.plan.proofs.columns.LaterIterator.next.Goals as goal

pub invariant_of-self : goal.invariant_of-self
invariant_of-self c =
    let a = arrays_of c.args.self.now.plan.now in
    record { positions = (positions_more a _ _ (subst (Positions a) c.in_ok-row.ensures.cases.0 c.args.self.now.positions)).2 }

pub invariant_of-result : goal.invariant_of-result
invariant_of-result c =
    let a = arrays_of c.args.self.now.plan.now in
    let f = positions_more a _ _ (subst (Positions a) c.in_ok-row.ensures.cases.0 c.args.self.now.positions) in
    record { low = f.0; high = f.1 }
