-- Columns laid out one after the other. A column k, from 1, is the list `col k` of its rows below the diagonal.
use Rattle.std.specs.Prelude.{◌≡◌, ◌<◌, ◌≤◌, ℕ, ◌+◌, ◌-◌, Bool, false, List, ◌∷◌, map, length, filter, slice_index}
use Rattle.std.specs.List.{range_with_len, flat_map}
use Rattle.graph.specs.Columns.{label_at}
use Rattle.graph.specs.Graphs.{Graph}
use Rattle.graph.specs.Picking.{Price}
use Rattle.plan.specs.Tables.{Grid}

-- the rows of the first m columns, each with its diagonal first
abbrev pub laid_rows : (ℕ → List ℕ) → ℕ → List ℕ
laid_rows col m = flat_map (λ k. k ∷ col k) (range_with_len 1 m)

-- where each of n columns starts, and where the last ends
abbrev pub laid_starts : (ℕ → List ℕ) → ℕ → List ℕ
laid_starts col n = map (λ m. length (laid_rows col m)) (range_with_len 0 (n + 1))

-- a mark beside each row, none beside a diagonal
abbrev pub laid_marks : (ℕ → List ℕ) → (ℕ → ℕ → Bool) → ℕ → List Bool
laid_marks col mark m = flat_map (λ k. false ∷ map (mark k) (col k)) (range_with_len 1 m)

-- whether the labels at two positions are linked on the sheet
abbrev pub sheet_link : Price → Graph → ℕ → ℕ → Bool
sheet_link price g k i = g.linked (label_at price g k) (label_at price g i)

-- what the rows have for two positions of an order
abbrev pub at_positions : List ℕ → Grid → ℕ → ℕ → Bool
at_positions order rows k i = rows (slice_index order (k - 1) - 1) (slice_index order (i - 1) - 1)

-- no row has the position that it is of, or an earlier one
abbrev pub Later : List ℕ → Grid → Type 0
Later order rows = (k i : ℕ) → k < length order → i ≤ k → rows (slice_index order k - 1) (slice_index order i - 1) ≡ false

-- whether the labels at two positions of an order are linked
abbrev pub labels_linked : List ℕ → (ℕ → ℕ → Bool) → ℕ → ℕ → Bool
labels_linked order linked k i = linked (slice_index order (k - 1)) (slice_index order (i - 1))

-- the later positions of n that the row of position k has
abbrev pub listed : ℕ → List ℕ → Grid → ℕ → List ℕ
listed n order rows k = filter (at_positions order rows k) (range_with_len (k + 1) (n - k))
