use Rattle.std.proofs.Common.{◌≡◌, ◌≤◌}
use Rattle.arith.specs.Operations.{operations_of}
use Rattle.numeric.proofs.Walks.{Walked}
use Rattle.numeric.proofs.elimination.update_column.Given as goal

abbrev pub invariant-loop-at : goal.invariant-loop-at
invariant-loop-at g l =
    let at = l.at-iterator.start in
    (l.at-iterator.end ≡ l.fn.targets.end) × (l.fn.targets.start ≤ at) × (at ≤ l.fn.targets.end)
    × Walked (operations_of g.N.Arithmetic) l.rows l.sources.start l.sources.end l.fn.targets.start l.fn.targets.end l.initial.worked at l.next l.worked
