-- The labels of positions.
use Rattle.std.specs.Prelude.{ℕ, ◌-◌, ◌<◌, ◌≤◌, List, length, slice_index}

-- an order of as many labels has one at position k
abbrev pub HasLabel : List ℕ → ℕ → Type 0
HasLabel order k = (0 < k) × (k ≤ length order) × (0 < slice_index order (k - 1)) × (slice_index order (k - 1) ≤ length order)
