-- What is left of a walk over columns of a plan. A column is its plan and its position.
use Rattle.std.specs.Prelude.{ℕ, ◌-◌, List, map}
use Rattle.std.specs.List.{range_with_len}
use Rattle.plan.specs.declared.columns.Column.{Column}
use Rattle.plan.specs.declared.columns.Columns.{Columns}
use Rattle.plan.specs.declared.columns.Later.{Later}
use Rattle.plan.specs.declared.plans.Plan.{Plan}

abbrev pub column_is : Column → Plan × ℕ
column_is c = (c.plan.now, c.position)

-- the columns of a plan at some positions
abbrev pub columns_at : Plan → List ℕ → List (Plan × ℕ)
columns_at p ks = map (λ k. (p, k)) ks

abbrev pub columns_left : Columns → List (Plan × ℕ)
columns_left w = columns_at w.plan.now (range_with_len w.left.start (w.left.end - w.left.start))

abbrev pub later_left : Later → List (Plan × ℕ)
later_left w = columns_at w.plan.now w.rows.now
