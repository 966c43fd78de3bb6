use Rattle.std.proofs.Common.{◌≡◌, ℕ, ◌-◌, length, get_or}
use Rattle.nodeset.specs.Rows.{linked_in as adjacent}
use Rattle.nodeset.specs.Sets.{has}
use Rattle.plan.proofs.Gathered.{gathered}
use Rattle.plan.proofs.laying.Elimination.column.Given as goal

abbrev pub invariant-loop-node : goal.invariant-loop-node
invariant-loop-node l = record {
  can : (goal.iterator-loop-node).can_next l.node-iterator;
  ends : (goal.iterator-loop-node).is_finite l.node-iterator;
  row : (b : ℕ) → has l.node-iterator.set b ≡ adjacent l.self.graph.now (get_or l.self.order.now l.k 0 - 1) b;
  column : (i : ℕ) → has l.column i ≡ gathered (length l.self.order.now) (adjacent l.self.graph.now (get_or l.self.order.now l.k 0 - 1)) l.self.order.now l.node-iterator.from i;
}
