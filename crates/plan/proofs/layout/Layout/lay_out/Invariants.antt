use Rattle.std.proofs.Common.{◌≡◌, vec_items}
use Rattle.plan.specs.Laid.{laid_rows, laid_starts, laid_marks}
use Rattle.plan.specs.Views.{rows_of, link_of}
use Rattle.plan.proofs.layout.Layout.lay_out.Given as goal

abbrev pub invariant-loop-k : goal.invariant-loop-k
invariant-loop-k l = record {
  starts : vec_items l.self.starts ≡ laid_starts (rows_of l.from) l.k;
  rows : vec_items l.self.rows ≡ laid_rows (rows_of l.from) l.k;
  links : vec_items l.self.links ≡ laid_marks (rows_of l.from) (link_of l.from) l.k;
}
