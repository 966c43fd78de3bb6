-- Every plan keeps the rules of the layout, by its own invariant.
use Rattle.std.proofs.Common.{◌≡◌, ◌+◌, length, vec_items, vec_len, sym, ap, ◌∙◌, subst, arith}
use Rattle.plan.specs.declared.columns.Column.{Column}
use Rattle.plan.specs.declared.plans.Plan.{Plan}
use Rattle.plan.specs.Layout.{Undoes, Starts, Diagonals, Rises, Within, Closed}
use Rattle.plan.specs.Planned.{Keeps}
use Rattle.plan.specs.Positions.{Position}
use Rattle.plan.specs.Views.{arrays_of}

pub keeps : (p : Plan) → Keeps (arrays_of p)
keeps p =
    let O = vec_items p.order in
    let Q = vec_items p.positions in
    let S = vec_items p.starts in
    let R = vec_items p.rows in
    let e : vec_len p.order ≡ length O = p.order.ok.0 in
    record {
      some = omega (arith, e, p.bounds.0);
      small = omega (arith, e, p.bounds.1);
      few = omega (arith, p.rows.ok.0, p.bounds.2);
      positions_long = sym p.positions.ok.0 ∙ p.sizes.0 ∙ e;
      starts_long = sym p.starts.ok.0 ∙ p.sizes.1 ∙ ap (λ x. x + 1) e;
      links_long = sym p.links.ok.0 ∙ p.sizes.2 ∙ p.rows.ok.0;
      ranked = subst (λ n. Undoes n O Q) e p.ranked;
      placed = subst (λ n. Undoes n Q O) e p.placed;
      starting = subst (λ n. Starts n S R) e p.starting;
      headed = subst (λ n. Diagonals n S R) e p.headed;
      rising = subst (λ n. Rises n S R) e p.rising;
      within = subst (λ n. Within n R) e p.within;
      closed = subst (λ n. Closed n S R (vec_items p.links)) e p.closed;
    }

-- a column stands at a position of its plan
pub position : (c : Column) → Position (arrays_of c.plan.now) c.position
position c = record { keeps = keeps c.plan.now; low = c.low; high = c.high }
