use Rattle.std.proofs.Common.{◌≡◌, ℕ, ◌-◌, Bool, Some, length, get_or, sym, ap, ◌∙◌, arith}
use Rattle.nodeset.specs.Rows.{linked_in as adjacent}
use Rattle.nodeset.specs.Sets.{has, FindsLeast}
use Rattle.plan.specs.declared.laying.Elimination.{Elimination}
use Rattle.plan.proofs.Gathered.{gathered, gathered_none, gathered_more, gathered_all}
use Rattle.plan.proofs.Members.{Next, walk_some, walk_none}
use Rattle.plan.proofs.laying.Elimination.column.Goals as goal

-- the next node that row v has
next : (me : Elimination) (v at w : ℕ) (row : ℕ → Bool) → ((b : ℕ) → row b ≡ adjacent me.graph.now v b) → FindsLeast row at (Some w) → Next (length me.order.now) (adjacent me.graph.now v) at w
next me v at w row is = walk_some row (adjacent me.graph.now v) is at (length me.order.now) w (me.inside v)

pub loop-node-init : goal.loop-node-init
loop-node-init c =
    let me = c.args.self.now in
    let n = length me.order.now in
    let row = adjacent me.graph.now (get_or me.order.now c.args.k 0 - 1) in
    let same = c.into_iter-node-iterator.ensures.into_iter_gives in
    let set = ap (λ s. s.set) same ∙ c.iter-node-items.ensures.set in
    let from = ap (λ s. s.from) same ∙ c.iter-node-items.ensures.from in
    record {
      can = tt;
      ends = tt;
      row = λ b. ap (λ s. has s b) set ∙ c.row.ensures b;
      column = λ i.
          c.empty-column.ensures i ∙ sym (gathered_none n row me.order.now me.positions.now me.small me.ranked me.placed 0 i)
          ∙ ap (λ m. gathered n row me.order.now m i) (sym from);
    }

pub bounds-self-node : goal.bounds-self-node
bounds-self-node c =
    let me = c.args.self.now in
    omega (arith, (next me _ _ c.in-Some.node _ c.loop-node.invariant.row c.in-Some.ensures.steps.least).high, me.long)

pub overflow_sub-self-in-loop-node : goal.overflow_sub-self-in-loop-node
overflow_sub-self-in-loop-node c =
    let me = c.args.self.now in
    (me.placed c.in-Some.node (next me _ _ c.in-Some.node _ c.loop-node.invariant.row c.in-Some.ensures.steps.least).high).0

pub loop-node-preserved : goal.loop-node-preserved
loop-node-preserved c =
    let me = c.args.self.now in
    let n = length me.order.now in
    let v = get_or me.order.now c.args.k 0 - 1 in
    let row = adjacent me.graph.now v in
    let gives = c.in-Some.ensures.steps in
    let w = c.in-Some.node in
    let at = c.loop-node.node-iterator.from in
    record {
      can = tt;
      ends = tt;
      row = λ b. ap (λ s. has s b) gives.set ∙ c.loop-node.invariant.row b;
      column = λ i.
          gathered_more n row me.order.now me.positions.now me.small me.ranked me.placed at w (next me v at w _ c.loop-node.invariant.row gives.least) (has c.loop-node.column) (has c.insert.new.self) c.loop-node.invariant.column c.insert.ensures i
          ∙ ap (λ m. gathered n row me.order.now m i) (sym gives.from);
    }

pub returns : goal.returns
returns c =
    let me = c.args.self.now in
    let row = adjacent me.graph.now (get_or me.order.now c.args.k 0 - 1) in
    let at = c.loop-node.node-iterator.from in
    λ i.
    c.loop-node.invariant.column i
    ∙ gathered_all (length me.order.now) row me.order.now me.positions.now me.small me.ranked me.placed at
    (λ x l h. walk_none (has c.loop-node.node-iterator.set) row c.loop-node.invariant.row at c.in-None.ensures.steps.least x l) i
