-- The positions of a plan.
use Rattle.std.specs.Prelude.{ℕ, ◌<◌, ◌≤◌, List, length, slice_index}
use Rattle.plan.specs.Lookups.{size_in}
use Rattle.plan.specs.Planned.{Arrays, Keeps}

-- k is one of the positions of a plan that keeps the rules of the layout, 1 to n
pub record Position (a : Arrays) (k : ℕ) : Type 0 where
  pub keeps : Keeps a
  pub low : 0 < k
  pub high : k ≤ size_in a

-- and so are these rows
abbrev pub Positions : Arrays → List ℕ → Type 0
Positions a rows = (i : ℕ) → i < length rows → (0 < slice_index rows i) × (slice_index rows i ≤ size_in a)
