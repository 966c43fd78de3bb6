use Rattle.std.proofs.Common.{◌≡◌, ℕ, ◌≤◌, vec_items}
use Rattle.nodeset.specs.Rows.{linked_in as adjacent}
use Rattle.nodeset.specs.Sets.{has}
use Rattle.plan.specs.Shown.{SameRest}
use Rattle.plan.specs.Tables.{settled_rows, Agree, Recounted}
use Rattle.plan.proofs.planner.Planner.settle.Given as goal

abbrev pub invariant-loop-a : goal.invariant-loop-a
invariant-loop-a l = record {
  can : (goal.iterator-loop-a).can_next l.a-iterator;
  ends : (goal.iterator-loop-a).is_finite l.a-iterator;
  row : (b : ℕ) → has l.a-iterator.set b ≡ adjacent l.initial.self.rows l.v b;
  rows : Agree l.initial.self.n (adjacent l.self.rows) (settled_rows (adjacent l.initial.self.rows) l.v l.a-iterator.from);
  nodes : Recounted l.initial.self.n (adjacent l.initial.self.rows) l.v l.a-iterator.from (vec_items l.initial.self.nodes) (vec_items l.self.nodes);
  rest : SameRest l.initial.self l.self;
  low : l.a-iterator.from ≤ l.initial.self.n;
}
