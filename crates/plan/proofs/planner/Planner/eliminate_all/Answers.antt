use Rattle.std.proofs.Common.{refl, ◌∙◌, arith}
use Rattle.plan.proofs.Runs.{advances, too_many, few_enough}
use Rattle.plan.proofs.planner.Planner.eliminate_all.Goals as goal

pub returns-then-self-gt-MOST_PLACES : goal.returns-then-self-gt-MOST_PLACES
returns-then-self-gt-MOST_PLACES g c =
    let price = g.R.Rule.priced c.args.rule.now in
    let size = c.eliminate_next.ensures.size ∙ c.loop.invariant.0 in
    record {
      size = size;
      ends = λ linked two_way st. (
        refl,
        too_many price c.args.self.now.n linked _ c.eliminate_next.new.self size (omega arith) (omega arith)
            (advances price c.loop.self c.eliminate_next.new.self c.args.self.now.n linked c.loop.counter c.loop.invariant.0 two_way (omega arith) c.eliminate_next.ensures.stands (c.loop.invariant.3 linked two_way st)),
      );
    }

pub loop-preserved : goal.loop-preserved
loop-preserved g c =
    let price = g.R.Rule.priced c.args.rule.now in (
      c.eliminate_next.ensures.size ∙ c.loop.invariant.0,
      omega (arith, c.eliminate_next.ensures.longer, c.loop.invariant.1),
      omega arith,
      λ linked two_way st.
          advances price c.loop.self c.eliminate_next.new.self c.args.self.now.n linked c.loop.counter c.loop.invariant.0 two_way (omega arith) c.eliminate_next.ensures.stands (c.loop.invariant.3 linked two_way st),
    )

pub returns : goal.returns
returns g c = record {
  size = c.loop.invariant.0;
  ends = λ linked two_way st.
      few_enough (g.R.Rule.priced c.args.rule.now) c.args.self.now.n linked c.loop.counter c.loop.self c.loop.invariant.0 (omega arith) c.loop.invariant.2 (c.loop.invariant.3 linked two_way st);
}
