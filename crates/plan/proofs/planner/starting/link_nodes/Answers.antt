use Rattle.std.proofs.Common.{◌∙◌}
use Rattle.nodeset.specs.Rows.{linked_in as adjacent}
use Rattle.plan.proofs.Links.{linked_turn}
use Rattle.plan.proofs.planner.starting.link_nodes.Goals as goal

pub loop-a-preserved : goal.loop-a-preserved
loop-a-preserved c =
    let l = c.requires.labels c.loop-a.a-index c.loop-a-test.true in
    λ a b. linked_turn c.args.links.now (adjacent c.loop-a.graph) (adjacent c.link.new.self) c.loop-a.a-index c.loop-a-test.true l.0 l.1 c.link.ensures a b ∙ c.loop-a.invariant a b
