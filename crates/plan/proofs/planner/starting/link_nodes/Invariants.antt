use Rattle.std.proofs.Common.{◌≡◌, ℕ, ◌+◌, ◌||◌, drop}
use Rattle.nodeset.specs.Rows.{linked_in as adjacent}
use Rattle.sheet.specs.Patterns.{linked_in}
use Rattle.plan.proofs.planner.starting.link_nodes.Given as goal

abbrev pub invariant-loop-a : goal.invariant-loop-a
invariant-loop-a l = (a b : ℕ) → (adjacent l.graph a b || linked_in (drop l.a-index l.links) (a + 1) (b + 1)) ≡ linked_in l.links (a + 1) (b + 1)
