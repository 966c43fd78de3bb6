use Rattle.std.specs.List.{flat_map}
use Rattle.plan.specs.Lookups.{label_in}
use Rattle.plan.specs.Views.{arrays_of}
use Rattle.plan.specs.Walks.{column_is}
use Rattle.listing.specs.Tables.{Puts}
use Rattle.listing.proofs.Marked.{pair_unless}
use Rattle.listing.proofs.fills.put_column.Given as goal

abbrev pub invariant-loop-row : goal.invariant-loop-row
invariant-loop-row l =
    Puts (flat_map (λ r. pair_unless (label_in (arrays_of l.column.plan.now) l.column.position) (column_is r.0, r.1.now)) l.yielded) l.initial.page l.page
