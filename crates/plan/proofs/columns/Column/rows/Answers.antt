use Rattle.plan.specs.Views.{arrays_of}
use Rattle.plan.proofs.Kept.{position}
use Rattle.plan.proofs.Spans.{rows_above, rows_rise}
use Rattle.plan.proofs.columns.Column.rows.Goals as goal

pub returns-clause-above : goal.returns-clause-above
returns-clause-above c =
    let column = c.args.self in
    rw (c.deref.ensures.value, c.places-places.ensures.start, c.places-places.ensures.end)
    (rows_above (arrays_of column.plan.now) column.position (position column))

pub returns-clause-rises : goal.returns-clause-rises
returns-clause-rises c =
    let column = c.args.self in
    rw (c.deref.ensures.value, c.places-places.ensures.start, c.places-places.ensures.end)
    (rows_rise (arrays_of column.plan.now) column.position (position column))
