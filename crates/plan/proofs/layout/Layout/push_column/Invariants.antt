use Rattle.std.proofs.Common.{◌≡◌, ℕ, ◌+◌, ◌≤◌, false, ◌∷◌, ◌++◌, map, length, vec_items}
use Rattle.nodeset.specs.Rows.{linked_in as adjacent}
use Rattle.nodeset.specs.Sets.{has}
use Rattle.plan.specs.Laid.{at_positions}
use Rattle.plan.specs.Views.{rows_of, link_of}
use Rattle.plan.proofs.Gathered.{indices}
use Rattle.plan.proofs.Lays.{rest}
use Rattle.plan.proofs.layout.Layout.push_column.Given as goal

abbrev pub invariant-loop-i : goal.invariant-loop-i
invariant-loop-i l = record {
  can : (goal.iterator-loop-i).can_next l.i-iterator;
  ends : (goal.iterator-loop-i).is_finite l.i-iterator;
  column : (i : ℕ) → has l.i-iterator.set i ≡ indices (length l.from.order.now) l.from.order.now (adjacent l.from.graph.now) l.k i;
  low : l.i-iterator.from ≤ length l.from.order.now;
  starts : l.self.starts ≡ l.fn.self.starts;
  rows : vec_items l.self.rows ++ rest (at_positions l.from.order.now (adjacent l.from.graph.now) (l.k + 1)) (length l.from.order.now) l.i-iterator.from
      ≡ vec_items l.fn.self.rows ++ (l.k + 1) ∷ rows_of l.from (l.k + 1);
  links : vec_items l.self.links ++ map (link_of l.from (l.k + 1)) (rest (at_positions l.from.order.now (adjacent l.from.graph.now) (l.k + 1)) (length l.from.order.now) l.i-iterator.from)
      ≡ vec_items l.fn.self.links ++ false ∷ map (link_of l.from (l.k + 1)) (rows_of l.from (l.k + 1));
}
