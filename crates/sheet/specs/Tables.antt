-- A table of 512 rows of 512 cells that says which labels are linked.
use Rattle.std.specs.Prelude.{◌≡◌, ℕ, ◌+◌, ◌-◌, ◌*◌, Bool, false, List, slice_index_or}
use Rattle.sheet.specs.Patterns.{IsLabel, linked_in}

-- the place of the cell in row a - 1 and column b - 1
abbrev pub cell_of : ℕ → ℕ → ℕ
cell_of a b = (a - 1) * 512 + (b - 1)

abbrev pub Shows : List (ℕ × ℕ) → List Bool → Type 0
Shows links cells = (a b : ℕ) → IsLabel 512 a × IsLabel 512 b → slice_index_or cells (cell_of a b) false ≡ linked_in links a b
