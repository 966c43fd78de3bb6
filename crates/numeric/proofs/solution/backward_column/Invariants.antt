use Rattle.std.proofs.Common.{◌≡◌, suc, ◌+◌, ◌-◌, length}
use Rattle.arith.specs.Operations.{solvers_of}
use Rattle.plan.specs.Lookups.{size_in, start_in}
use Rattle.plan.specs.Views.{arrays_of}
use Rattle.plan.proofs.Spans.{row_at}
use Rattle.square.specs.Calls.{by_position}
use Rattle.square.specs.Plans.{site_of, matrix_of}
use Rattle.square.specs.Solution.{taken_from}
use Rattle.numeric.proofs.solution.backward_column.Given as goal

-- what is left to take begins past the last row that was taken, or the diagonal
abbrev pub invariant-loop-row : goal.invariant-loop-row
invariant-loop-row g l =
    let s = solvers_of g.N.Arithmetic g.N.Solving.taken g.N.Solving.divided in
    let e = g.N.Arithmetic.nothing in
    let a = arrays_of l.fn.column.plan.now in
    let k = l.fn.column.position in
    let m = matrix_of e a l.worked in
    let y = by_position e (site_of a) l.levels in
    let r = row_at a (start_in a k + length l.yielded) in
    taken_from s m k y l.level (suc r) (size_in a - r) ≡ taken_from s m k y (y k) (suc k) (size_in a - k)
