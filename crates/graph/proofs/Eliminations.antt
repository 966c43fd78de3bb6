-- Every elimination keeps the theorems.
use Rattle.std.proofs.Common.{ℕ, Bool}
use Rattle.graph.specs.Picking.{Price}
use Rattle.graph.specs.Theorems.{Eliminates}
use Rattle.graph.proofs.Equations.{column_equation}
use Rattle.graph.proofs.Forests.{makes_forest}
use Rattle.graph.proofs.Nexts.{picks_next}
use Rattle.graph.proofs.Orders.{permutes, holds_neighbours}
use Rattle.graph.proofs.Paths.{columns_are_paths}

pub eliminates : (price : Price) (n : ℕ) (linked : ℕ → ℕ → Bool) → Eliminates price n linked
eliminates price n linked = record {
  permutation = permutes price n linked;
  picks = picks_next price n linked;
  neighbours = holds_neighbours price n linked;
  equation = column_equation price n linked;
  forest = makes_forest price n linked;
  paths = columns_are_paths price n linked;
}
