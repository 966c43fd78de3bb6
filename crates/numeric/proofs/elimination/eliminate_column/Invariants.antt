use Rattle.std.proofs.Common.{◌≡◌, ◌+◌, ◌-◌, ◌<◌, ◌≤◌, drop}
use Rattle.std.specs.Iterator.Adapters.{zip_first, zip_second}
use Rattle.arith.specs.Operations.{operations_of}
use Rattle.plan.specs.Lookups.{start_in, rows_in}
use Rattle.plan.specs.Views.{arrays_of}
use Rattle.plan.specs.Walks.{columns_at, later_left}
use Rattle.numeric.proofs.Sweeps.{Swept}
use Rattle.numeric.proofs.elimination.eliminate_column.Given as goal

-- the columns of the rows before place `source` are updated
abbrev pub invariant-loop-target : goal.invariant-loop-target
invariant-loop-target g l =
    let p = l.fn.column.plan.now in
    let a = arrays_of p in
    let k = l.fn.column.position in
    let source = (zip_second l.target-iterator).start in
    ((zip_second l.target-iterator).end ≡ start_in a (k + 1))
    × (start_in a k < source)
    × (source ≤ start_in a (k + 1))
    × (later_left (zip_first l.target-iterator) ≡ columns_at p (drop (source - (start_in a k + 1)) (rows_in a k)))
    × Swept (operations_of g.N.Arithmetic) a k source l.initial.worked l.worked
