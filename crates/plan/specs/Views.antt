-- What a plan holds, and what an elimination shows of its columns.
use Rattle.std.specs.Prelude.{ℕ, Bool, List, length, vec_items}
use Rattle.nodeset.specs.Rows.{linked_in as adjacent}
use Rattle.sheet.specs.Patterns.{linked_in}
use Rattle.sheet.specs.Views.{pattern_of}
use Rattle.plan.specs.declared.laying.Elimination.{Elimination}
use Rattle.plan.specs.declared.plans.Plan.{Plan}
use Rattle.plan.specs.Laid.{listed, labels_linked}
use Rattle.plan.specs.Planned.{Arrays}

abbrev pub arrays_of : Plan → Arrays
arrays_of p = record {
  order = vec_items p.order;
  positions = vec_items p.positions;
  starts = vec_items p.starts;
  rows = vec_items p.rows;
  links = vec_items p.links;
}

-- the rows of column k, below its diagonal
abbrev pub rows_of : Elimination → ℕ → List ℕ
rows_of e = listed (length e.order.now) e.order.now (adjacent e.graph.now)

-- whether the labels at two positions are linked on the sheet
abbrev pub link_of : Elimination → ℕ → ℕ → Bool
link_of e = labels_linked e.order.now (linked_in (pattern_of e.sheet.now).links)
