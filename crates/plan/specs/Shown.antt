-- What a planner shows.
use Rattle.std.specs.Prelude.{◌≡◌, ℕ, ◌+◌, ◌<◌, Bool, vec_items}
use Rattle.graph.specs.Picking.{Price}
use Rattle.graph.specs.Theorems.{TwoWay}
use Rattle.nodeset.specs.Rows.{linked_in as adjacent}
use Rattle.plan.specs.declared.planner.Planner.{Planner}
use Rattle.plan.specs.Stages.{Stands}

-- k nodes of the graph are gone
abbrev pub Shows : Price → (ℕ → ℕ → Bool) → ℕ → Planner → Type 0
Shows price linked k p = Stands price p.n linked k (vec_items p.nodes) (adjacent p.rows) (vec_items p.left) (vec_items p.order) p.places

-- of every graph, q has one node less than p
abbrev pub Advances : Price → Planner → Planner → Type 0
Advances price p q = (linked : ℕ → ℕ → Bool) (k : ℕ) → TwoWay linked → k < p.n → Shows price linked k p → Shows price linked (k + 1) q

-- the joining of rows leaves everything but rows and records as it is
pub record SameRest (p q : Planner) : Type 0 where
  pub size : q.n ≡ p.n
  pub left : q.left ≡ p.left
  pub order : q.order ≡ p.order
  pub places : q.places ≡ p.places
