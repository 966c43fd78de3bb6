-- The fill of a plan, over its arrays, column by column.
use Rattle.std.specs.Prelude.{◌≡◌, ℕ, ◌+◌, ◌-◌, Bool, false, not, List, map, filter, slice_index, slice_index_or}
use Rattle.std.specs.List.{range_with_len, flat_map}
use Rattle.graph.specs.Columns.{fill}
use Rattle.graph.specs.Graphs.{start}
use Rattle.graph.specs.Picking.{Price}
use Rattle.plan.specs.Lookups.{size_in, label_in, start_in}
use Rattle.plan.specs.Planned.{Arrays, arrays_for}

-- the places of column k, below its diagonal
abbrev pub places_in : Arrays → ℕ → List ℕ
places_in a k = range_with_len (start_in a k + 1) (start_in a (k + 1) - (start_in a k + 1))

-- whether a place is no link of the sheet
abbrev pub unlinked : Arrays → ℕ → Bool
unlinked a p = not (slice_index_or a.links p false)

-- the label of column k, and that of the row at a place
abbrev pub labels_at : Arrays → ℕ → ℕ → ℕ × ℕ
labels_at a k p = (label_in a k, label_in a (slice_index a.rows p))

-- the fill pairs of column k
abbrev pub column_fill : Arrays → ℕ → List (ℕ × ℕ)
column_fill a k = map (labels_at a k) (filter (unlinked a) (places_in a k))

-- the fill pairs of all columns
abbrev pub fill_pairs : Arrays → List (ℕ × ℕ)
fill_pairs a = flat_map (column_fill a) (range_with_len 1 (size_in a))

-- For the arrays that the definitions give, these are the fill of the elimination graph.
abbrev pub ListsFill : Type 0
ListsFill = (price : Price) (n : ℕ) (linked : ℕ → ℕ → Bool) → fill_pairs (arrays_for price n linked) ≡ fill price (start n linked) n
