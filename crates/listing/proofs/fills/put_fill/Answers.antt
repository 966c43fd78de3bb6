use Rattle.std.proofs.Common.{ap, ◌∙◌}
use Rattle.std.specs.List.{range_with_len}
use Rattle.plan.specs.Lookups.{size_in}
use Rattle.plan.specs.Views.{arrays_of}
use Rattle.plan.specs.Walks.{columns_left}
use Rattle.listing.specs.Fills.{column_fill}
use Rattle.listing.proofs.Walked.{walked}
use Rattle.listing.proofs.Writes.{puts_as, puts_next}
use Rattle.listing.proofs.fills.put_fill.Goals as goal

pub loop-column-preserved : goal.loop-column-preserved
loop-column-preserved c = puts_next (λ k. column_fill (arrays_of k.plan.now) k.position) c.loop-column.yielded c.in-Some.column c.loop-column.invariant c.put_column.ensures

pub returns : goal.returns
returns c =
    let plan = c.args.plan.now in
    let start = ap columns_left c.into_iter-column-iterator.ensures.into_iter_gives ∙ c.columns-column-items.ensures in
    let pieces = walked columns_left column_fill plan (range_with_len 1 (size_in (arrays_of plan))) start c.loop-column.yielded c.loop-column.column-iterator c.loop-column.yielded_by c.next.result c.next.new.self c.in-None.is c.next.ensures.steps in
    puts_as pieces c.loop-column.invariant
