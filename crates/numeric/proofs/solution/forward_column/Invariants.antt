use Rattle.std.proofs.Common.{◌+◌, length}
use Rattle.arith.specs.Operations.{operations_of}
use Rattle.plan.specs.Lookups.{start_in}
use Rattle.plan.specs.Views.{arrays_of}
use Rattle.square.specs.Calls.{by_position}
use Rattle.square.specs.Plans.{site_of}
use Rattle.numeric.proofs.Forwards.{Forwarded}
use Rattle.numeric.proofs.solution.forward_column.Given as goal

abbrev pub invariant-loop-row : goal.invariant-loop-row
invariant-loop-row g l =
    let o = operations_of g.N.Arithmetic in
    let a = arrays_of l.fn.column.plan.now in
    let k = l.fn.column.position in
    Forwarded o a l.worked k (start_in a k + 1 + length l.yielded) (by_position o.nothing (site_of a) l.initial.levels) (by_position o.nothing (site_of a) l.levels)
