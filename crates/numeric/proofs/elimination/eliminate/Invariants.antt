use Rattle.std.proofs.Common.{◌≡◌, ◌+◌, ◌-◌, ◌≤◌, length, None}
use Rattle.std.specs.List.{range_with_len}
use Rattle.arith.specs.Operations.{operations_of}
use Rattle.plan.specs.Lookups.{size_in}
use Rattle.plan.specs.Views.{arrays_of}
use Rattle.plan.specs.Walks.{columns_at, columns_left}
use Rattle.square.specs.Elimination.{eliminated}
use Rattle.square.specs.Plans.{matrix_of}
use Rattle.numeric.proofs.elimination.eliminate.Given as goal

-- the steps of as many columns as were yielded are done
abbrev pub invariant-loop-column : goal.invariant-loop-column
invariant-loop-column g l =
    let o = operations_of g.N.Arithmetic in
    let a = arrays_of l.plan in
    let k = length l.yielded in
    (columns_left l.column-iterator ≡ columns_at l.plan (range_with_len (k + 1) (size_in a - k)))
    × (k ≤ size_in a)
    × (length l.worked ≡ length a.rows)
    × (eliminated o (matrix_of o.nothing a l.entered) k ≡ record { numbers = matrix_of o.nothing a l.worked; stuck = None })
