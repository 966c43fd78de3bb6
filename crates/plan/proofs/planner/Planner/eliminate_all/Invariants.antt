use Rattle.std.proofs.Common.{◌≡◌, ℕ, ◌≤◌, Bool, vec_len}
use Rattle.graph.specs.Theorems.{TwoWay}
use Rattle.plan.specs.Shown.{Shows}
use Rattle.plan.proofs.planner.Planner.eliminate_all.Given as goal

abbrev pub invariant-loop : goal.invariant-loop
invariant-loop g l = (l.self.n ≡ l.initial.self.n)
    × (vec_len l.self.order ≤ l.counter)
    × (l.self.places ≤ 8192)
    × ((linked : ℕ → ℕ → Bool) → TwoWay linked → Shows (g.R.Rule.priced l.rule) linked 0 l.initial.self → Shows (g.R.Rule.priced l.rule) linked l.counter l.self)
