use Rattle.std.proofs.Common.{◌≡◌, ℕ, Bool, cond, List, [], ◌∷◌, ap, ap₂, ◌∙◌, sym, rules}
use Rattle.std.specs.List.{flat_map}
use Rattle.std.proofs.lemmas.Iterator.{YieldsList-from_slice, YieldsList-from_zip}
use Rattle.std.proofs.lemmas.Iterator.Consumers.{YieldsList-from_first, YieldsList-end}
use Rattle.std.proofs.lemmas.List.Folds.{flat_map-map}
use Rattle.plan.specs.declared.plans.Plan.{Plan}
use Rattle.plan.specs.Lookups.{label_in, rows_in, links_in}
use Rattle.plan.specs.Views.{arrays_of}
use Rattle.plan.specs.Walks.{column_is, columns_at, later_left}
use Rattle.listing.proofs.Marked.{pair_unless, marked_fill}
use Rattle.listing.proofs.Writes.{puts_none, puts_as, puts_next}
use Rattle.listing.proofs.fills.put_column.Goals as goal

pub loop-row-preserved-then-not-link : goal.loop-row-preserved-then-not-link
loop-row-preserved-then-not-link c =
    let own = label_in (arrays_of c.args.column.plan.now) c.args.column.position in
    let pair : List (ℕ × ℕ) = (own, label_in (arrays_of c.in-Some.row.plan.now) c.in-Some.row.position) ∷ [] in
    let same : (c.label.result, c.label-then-not-link.result) ∷ [] ≡ cond c.in-Some.link.now [] pair =
    ap₂ (λ x y. (x, y) ∷ []) c.label.ensures.value c.label-then-not-link.ensures.value ∙ ap (λ b. cond b [] pair) (sym c.if-not-link.true) in
    puts_next (λ r. pair_unless own (column_is r.0, r.1.now)) c.loop-row.yielded (c.in-Some.row, c.in-Some.link) c.loop-row.invariant (puts_as same c.push.ensures)

pub loop-row-preserved : goal.loop-row-preserved
loop-row-preserved c =
    let own = label_in (arrays_of c.args.column.plan.now) c.args.column.position in
    let pair : List (ℕ × ℕ) = (own, label_in (arrays_of c.in-Some.row.plan.now) c.in-Some.row.position) ∷ [] in
    let same : [] ≡ cond c.in-Some.link.now [] pair = ap (λ b. cond b [] pair) (sym c.if-not-link.false) in
    puts_next (λ r. pair_unless own (column_is r.0, r.1.now)) c.loop-row.yielded (c.in-Some.row, c.in-Some.link) c.loop-row.invariant (puts_as same (puts_none c.loop-row.page))

pub returns : goal.returns
returns c =
    let plan = c.args.column.plan.now in
    let k = c.args.column.position in
    let a = arrays_of plan in
    let walk = YieldsList-from_zip (YieldsList-from_first column_is later_left (columns_at plan (rows_in a k)) (ap (λ z. later_left z.a) c.into_iter-row-iterator.ensures.into_iter_gives ∙ ap later_left c.zip-row-items.ensures.first ∙ c.later.ensures)) (YieldsList-from_slice (links_in a k) (search rules)) in
    let given = YieldsList-end walk c.loop-row.yielded c.loop-row.row-iterator c.loop-row.yielded_by c.next.result c.next.new.self c.in-None.is c.next.ensures.steps in
    let piece : (Plan × ℕ) × Bool → List (ℕ × ℕ) = pair_unless (label_in a k) in
    puts_as (sym (flat_map-map piece (λ r. (column_is r.0, r.1.now)) c.loop-row.yielded) ∙ ap (flat_map piece) given.0 ∙ marked_fill c.args.column) c.loop-row.invariant
