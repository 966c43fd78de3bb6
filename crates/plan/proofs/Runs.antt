-- The run of eliminations: when it is refused, and where it ends.
use Rattle.std.proofs.Common.{◌≡◌, ℕ, ◌+◌, ◌-◌, ◌<◌, ◌≤◌, Bool, vec_items, sym, ap, ◌∙◌, subst, arith}
use Rattle.graph.specs.Graphs.{start}
use Rattle.graph.specs.Picking.{Price}
use Rattle.graph.specs.Theorems.{TwoWay}
use Rattle.nodeset.specs.Rows.{linked_in as adjacent}
use Rattle.plan.specs.declared.planner.Planner.{Planner}
use Rattle.plan.specs.Planned.{place_count}
use Rattle.plan.specs.Shown.{Shows, Advances}
use Rattle.plan.specs.Stages.{Stands, spent}
use Rattle.plan.proofs.Spent.{places_spent, spent_grows}

-- one elimination more, where the number of nodes is known by an equation
pub advances : (price : Price) (p q : Planner) (n : ℕ) (linked : ℕ → ℕ → Bool) (k : ℕ) → p.n ≡ n → TwoWay linked → k < n → Advances price p q → Shows price linked k p → Shows price linked (k + 1) q
advances price p q n linked k e two_way h step = step linked k two_way (subst (λ s. k < s) (sym e) h)

-- the places of some columns are too many, so those of all are
pub too_many : (price : Price) (n : ℕ) (linked : ℕ → ℕ → Bool) (k : ℕ) (p : Planner) → p.n ≡ n → k ≤ n → 8192 < p.places → Shows price linked k p → 8192 < place_count price n linked
too_many price n linked k p e h many s =
    let f : k + (p.n - k) ≡ p.n = omega arith in
    let t : 8192 < place_count price p.n linked =
    omega (arith, s.sum, spent_grows price p.n linked k (p.n - k), ap (spent price (start p.n linked)) f, places_spent price p.n linked) in
    subst (λ x. 8192 < place_count price x linked) e t

pub few_enough : (price : Price) (n : ℕ) (linked : ℕ → ℕ → Bool) (k : ℕ) (p : Planner) → p.n ≡ n → k ≡ n → p.places ≤ 8192 → Shows price linked k p → Shows price linked p.n p × (place_count price n linked ≤ 8192)
few_enough price n linked k p e f few s =
    let q : k ≡ p.n = f ∙ sym e in
    let t : place_count price p.n linked ≤ 8192 = omega (arith, s.sum, ap (spent price (start p.n linked)) q, places_spent price p.n linked) in
    (subst (λ j. Shows price linked j p) q s, subst (λ x. place_count price x linked ≤ 8192) e t)

-- what a run shows at its end, by the number of nodes
pub record Ended (price : Price) (n : ℕ) (linked : ℕ → ℕ → Bool) (p : Planner) : Type 0 where
  pub stands : Stands price n linked n (vec_items p.nodes) (adjacent p.rows) (vec_items p.left) (vec_items p.order) p.places
  pub few : place_count price n linked ≤ 8192

pub ended : (price : Price) (n : ℕ) (linked : ℕ → ℕ → Bool) (p q : Planner) → p.n ≡ n → q.n ≡ p.n
    → (Shows price linked 0 p → Shows price linked q.n q × (place_count price p.n linked ≤ 8192)) → Shows price linked 0 p → Ended price n linked q
ended price n linked p q e f run s =
    let r = run s in
    record {
      stands = subst (λ x. Stands price x linked x (vec_items q.nodes) (adjacent q.rows) (vec_items q.left) (vec_items q.order) q.places) (f ∙ e) r.0;
      few = subst (λ x. place_count price x linked ≤ 8192) e r.1;
    }
