use Rattle.std.proofs.Common.{◌≡◌, ℕ, ◌+◌, ◌-◌, ◌<◌, ◌≤◌, length}
use Rattle.std.specs.Iterator.Adapters.{rev_source}
use Rattle.std.specs.List.{range_with_len}
use Rattle.arith.specs.Operations.{operations_of, solvers_of}
use Rattle.plan.specs.Lookups.{size_in}
use Rattle.plan.specs.Views.{arrays_of}
use Rattle.plan.specs.Walks.{columns_at, columns_left}
use Rattle.square.specs.Calls.{by_position}
use Rattle.square.specs.Plans.{site_of, matrix_of}
use Rattle.square.specs.Solution.{forward, backward}
use Rattle.numeric.proofs.solution.solve.Given as goal

-- forward past as many columns as were yielded
abbrev pub invariant-loop-column : goal.invariant-loop-column
invariant-loop-column g l =
    let o = operations_of g.N.Arithmetic in
    let a = arrays_of l.plan in
    let k = length l.yielded in
    (columns_left l.column-iterator ≡ columns_at l.plan (range_with_len (k + 1) (size_in a - k)))
    × (k ≤ size_in a)
    × (length l.levels ≡ size_in a)
    × ((i : ℕ) → 0 < i → i ≤ size_in a
    → by_position o.nothing (site_of a) l.levels i ≡ forward o (matrix_of o.nothing a l.worked) (by_position o.nothing (site_of a) l.right) k i)

-- back over as many columns as were yielded, from the last on
abbrev pub invariant-loop-column-2 : goal.invariant-loop-column-2
invariant-loop-column-2 g l =
    let s = solvers_of g.N.Arithmetic g.N.Solving.taken g.N.Solving.divided in
    let e = g.N.Arithmetic.nothing in
    let a = arrays_of l.plan in
    let n = size_in a in
    let m = matrix_of e a l.worked in
    let k = length l.yielded in
    (columns_left (rev_source l.column-iterator) ≡ columns_at l.plan (range_with_len 1 (n - k)))
    × (k ≤ n)
    × (length l.levels ≡ n)
    × ((i : ℕ) → 0 < i → i ≤ n
    → by_position e (site_of a) l.levels i ≡ backward s m n (forward s.base m (by_position e (site_of a) l.right) n) k i)
