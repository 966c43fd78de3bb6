use Rattle.std.proofs.Common.{◌≡◌, vec_items, vec_len, vec_capacity}
use Rattle.std.specs.List.{range_with_len}
use Rattle.nodeset.specs.Rows.{linked_in as adjacent}
use Rattle.plan.specs.Tables.{fresh_nodes}
use Rattle.plan.proofs.planner.starting.note_nodes.Given as goal

abbrev pub invariant-loop-a : goal.invariant-loop-a
invariant-loop-a l = (vec_items l.nodes ≡ fresh_nodes (adjacent l.graph) l.n l.a)
    × (vec_items l.left ≡ range_with_len 1 l.a)
    × (vec_len l.nodes ≡ l.a)
    × (vec_len l.left ≡ l.a)
    × (vec_capacity l.nodes ≡ vec_capacity l.initial.nodes)
    × (vec_capacity l.left ≡ vec_capacity l.initial.left)
