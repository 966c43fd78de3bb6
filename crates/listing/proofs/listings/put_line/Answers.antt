use Rattle.std.proofs.Common.{decimal, ap, ◌∙◌, sym}
use Rattle.std.proofs.lemmas.List.Folds.{flat_map-map}
use Rattle.plan.specs.Lookups.{label_in, parent_in, rows_in}
use Rattle.plan.specs.Views.{arrays_of}
use Rattle.plan.specs.Walks.{later_left}
use Rattle.listing.specs.Texts.{spaced}
use Rattle.listing.proofs.Walked.{walked}
use Rattle.listing.proofs.Writes.{puts_append, puts_as, puts_next}
use Rattle.listing.proofs.listings.put_line.Goals as goal

pub loop-row-preserved : goal.loop-row-preserved
loop-row-preserved c =
    puts_next (λ k. spaced (label_in (arrays_of k.plan.now) k.position)) c.loop-row.yielded c.in-Some.row c.loop-row.invariant
    (puts_as (cc) c.spaced-in-loop-row.ensures)

pub returns : goal.returns
returns c =
    let plan = c.args.column.plan.now in
    let a = arrays_of plan in
    let k = c.args.column.position in
    let rows = rows_in a k in
    let start = ap later_left c.into_iter-row-iterator.ensures.into_iter_gives ∙ c.later-row-items.ensures in
    let below = walked later_left (λ b k. spaced (label_in b k)) plan rows start c.loop-row.yielded c.loop-row.row-iterator c.loop-row.yielded_by c.next.result c.next.new.self c.in-None.is c.next.ensures.steps
    ∙ sym (flat_map-map spaced (label_in a) rows) in
    puts_append (puts_as {ys = decimal k} (cc) c.number.ensures)
    (puts_append (puts_as {ys = spaced (label_in a k)} (cc) c.spaced.ensures)
    (puts_append (puts_as {ys = spaced (parent_in a k)} (cc) c.spaced-2.ensures)
    (puts_append c.extend.ensures (puts_append (puts_as below c.loop-row.invariant) c.push.ensures))))
