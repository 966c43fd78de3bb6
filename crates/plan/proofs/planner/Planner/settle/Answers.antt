use Rattle.std.proofs.Common.{◌≡◌, ℕ, ◌+◌, ◌<◌, ◌≤◌, Bool, true, false, set, Some, vec_items, sym, refl, ap, ◌∙◌, subst, arith}
use Rattle.nodeset.specs.Rows.{linked_in as adjacent}
use Rattle.nodeset.specs.Sets.{has, count_below, FindsLeast}
use Rattle.plan.specs.declared.planner.Planner.{Planner}
use Rattle.plan.specs.Tables.{joined_rows, settled_rows, Agree, gone_in, Recounted}
use Rattle.plan.proofs.Joins.{settle_none, recount_none, row_v, settle_skips, settle_row, recount_skips, recount_row}
use Rattle.plan.proofs.Members.{Next, walk_some, walk_none}
use Rattle.plan.proofs.planner.Planner.settle.Goals as goal

-- the next row that row v has
next : (me : Planner) (v m a : ℕ) (row : ℕ → Bool) → ((b : ℕ) → row b ≡ adjacent me.rows v b) → FindsLeast row m (Some a) → Next me.n (adjacent me.rows v) m a
next me v m a row is = walk_some row (adjacent me.rows v) is m me.n a (me.inside v)

pub loop-a-init : goal.loop-a-init
loop-a-init c =
    let me = c.args.self.now in
    let v = c.args.v in
    let same = c.into_iter-a-iterator.ensures.into_iter_gives in
    let set = ap (λ s. s.set) same ∙ c.iter-a-items.ensures.set in
    let from = ap (λ s. s.from) same ∙ c.iter-a-items.ensures.from in
    record {
      can = tt;
      ends = tt;
      row = λ b. ap (λ s. has s b) set ∙ c.row.ensures b;
      rows = subst (λ m. Agree me.n (adjacent me.rows) (settled_rows (adjacent me.rows) v m)) (sym from) (settle_none me.n v (adjacent me.rows));
      nodes = subst (λ m. Recounted me.n (adjacent me.rows) v m (vec_items me.nodes) (vec_items me.nodes)) (sym from) (recount_none me.n v (adjacent me.rows) (vec_items me.nodes));
      rest = record { size = refl; left = refl; order = refl; places = refl };
      low = omega (arith, from);
    }

pub join-requires : goal.join-requires
join-requires c =
    let w = next c.args.self.now c.args.v _ c.in-Some.a _ c.loop-a.invariant.row c.in-Some.ensures.steps.least in
    (omega (arith, c.requires, c.loop-a.invariant.rest.size), omega (arith, w.high, c.loop-a.invariant.rest.size))

pub loop-a-preserved : goal.loop-a-preserved
loop-a-preserved c =
    let me = c.args.self.now in
    let at = c.loop-a.self in
    let after = c.join.new.self in
    let rows = adjacent me.rows in
    let held = adjacent at.rows in
    let v = c.args.v in
    let a = c.in-Some.a in
    let so_far = c.loop-a.invariant in
    let gives = c.in-Some.ensures.steps in
    let size = so_far.rest.size in
    let own = me.alone v c.requires in
    let from = c.loop-a.a-iterator.from in
    let w = next me v from a _ so_far.row gives.least in
    let rows_before = settle_skips me.n v from a rows held w.low w.between so_far.rows in
    let nodes_before = recount_skips me.n v from a rows (vec_items me.nodes) (vec_items at.nodes) w.low w.between so_far.nodes in
    let here : held v a ≡ true = row_v me.n v a rows held c.requires own rows_before a w.high ∙ w.here in
    let joins : Agree me.n (adjacent after.rows) (joined_rows held v a) = subst (λ x. Agree x (adjacent after.rows) (joined_rows held v a)) size c.join.ensures.rows in
    let nodes = c.join.ensures.nodes ∙ ap (λ x. set (vec_items at.nodes) a (record { degree = count_below (adjacent after.rows a) x; gone = gone_in (vec_items at.nodes) a })) size in
    let rest = c.join.ensures.rest in
    let next_is : a + 1 ≡ c.next.new.self.from = sym gives.from in
    record {
      can = tt;
      ends = tt;
      row = λ b. ap (λ s. has s b) gives.set ∙ so_far.row b;
      rows = subst (λ m. Agree me.n (adjacent after.rows) (settled_rows rows v m)) next_is (settle_row me.n v a rows held c.requires w.high own rows_before (adjacent after.rows) here joins);
      nodes = subst (λ m. Recounted me.n rows v m (vec_items me.nodes) (vec_items after.nodes)) next_is
          (recount_row me.n v a rows held c.requires w.high own rows_before (vec_items me.nodes) (vec_items at.nodes) nodes_before (adjacent after.rows) (vec_items after.nodes) (sym at.nodes.ok.0 ∙ at.noted ∙ size) here joins nodes);
      rest = record {
        size = rest.size ∙ size;
        left = rest.left ∙ so_far.rest.left;
        order = rest.order ∙ so_far.rest.order;
        places = rest.places ∙ so_far.rest.places;
      };
      low = omega (arith, w.high, next_is);
    }

pub returns : goal.returns
returns c =
    let me = c.args.self.now in
    let at = c.loop-a.self in
    let rows = adjacent me.rows in
    let v = c.args.v in
    let so_far = c.loop-a.invariant in
    let from = c.loop-a.a-iterator.from in
    let off : (x : ℕ) → from ≤ x → x < me.n → rows v x ≡ false = λ x l h. walk_none (has c.loop-a.a-iterator.set) (rows v) so_far.row from c.in-None.ensures.steps.least x l in
    record {
      rows = settle_skips me.n v from me.n rows (adjacent at.rows) so_far.low off so_far.rows;
      nodes = recount_skips me.n v from me.n rows (vec_items me.nodes) (vec_items at.nodes) so_far.low off so_far.nodes;
      rest = so_far.rest;
    }
