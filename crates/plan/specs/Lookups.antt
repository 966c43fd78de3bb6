-- What a plan answers, over its arrays. Labels, positions and the rows of columns count from 1, places from 0.
use Rattle.std.specs.Prelude.{ℕ, ◌+◌, ◌-◌, min, max, Bool, cond, ◌&&◌, List, [], ◌∷◌, length, take, drop, Some, None, Err, Option, Result, ◌==◌, nat_le, nat_lt, slice_index}
use Rattle.plan.specs.declared.refusals.Refusal.{Refusal}
use Rattle.plan.specs.declared.refusals.Refusal.TheVariants.{OutOfRange}
use Rattle.plan.specs.Planned.{Arrays}

-- the number of nodes
abbrev pub size_in : Arrays → ℕ
size_in a = length a.order

abbrev pub label_in : Arrays → ℕ → ℕ
label_in a k = slice_index a.order (k - 1)

abbrev pub position_in : Arrays → ℕ → ℕ
position_in a v = slice_index a.positions (v - 1)

-- the place of the diagonal of column k
abbrev pub start_in : Arrays → ℕ → ℕ
start_in a k = slice_index a.starts (k - 1)

-- the rows of column k, below its diagonal
abbrev pub rows_in : Arrays → ℕ → List ℕ
rows_in a k = take (start_in a (k + 1) - (start_in a k + 1)) (drop (start_in a k + 1) a.rows)

-- whether each of these rows is a link of the sheet
abbrev pub links_in : Arrays → ℕ → List Bool
links_in a k = take (start_in a (k + 1) - (start_in a k + 1)) (drop (start_in a k + 1) a.links)

-- the label at the first of the rows, 0 where there is none
abbrev pub first_label : Arrays → List ℕ → ℕ
first_label a [] = 0
first_label a (i ∷ is) = label_in a i

-- the label of the parent of position k, 0 at a root
abbrev pub parent_in : Arrays → ℕ → ℕ
parent_in a k = first_label a (rows_in a k)

-- x, unless the label or position k isn't 1 to n
abbrev pub within : {X : Type 0} → Arrays → ℕ → Result X Refusal → Result X Refusal
within a k x = cond (nat_lt 0 k && nat_le k (size_in a)) x (Err OutOfRange)

-- the place of i in a list, the first of which has place m
abbrev pub index_from : ℕ → List ℕ → ℕ → Option ℕ
index_from m [] i = None
index_from m (x ∷ xs) i = cond (x == i) (Some m) (index_from (m + 1) xs i)

-- the place of row i of column j: the diagonal first, then the rows
abbrev pub place_in : Arrays → ℕ → ℕ → Option ℕ
place_in a i j = index_from (start_in a j) (j ∷ rows_in a j) i

-- the place of two labels: that of their positions, the larger as the row
abbrev pub place_of : Arrays → ℕ → ℕ → Option ℕ
place_of a v w = place_in a (max (position_in a v) (position_in a w)) (min (position_in a v) (position_in a w))
