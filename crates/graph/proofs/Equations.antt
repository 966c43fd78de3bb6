-- The column equation.
use Rattle.std.proofs.Common.{◌≡◌, ℕ, zero, suc, Bool, ◌&&◌, ◌||◌, arith}
use Rattle.graph.specs.Columns.{any_below}
use Rattle.graph.specs.Graphs.{Graph, start}
use Rattle.graph.specs.Picking.{Price, remaining, picked}
use Rattle.graph.specs.Theorems.{ColumnEquation}

module _ (price : Price) (g : Graph) where
  -- whether the elimination when k are gone links a and b
  abbrev made : ℕ → ℕ → ℕ → Bool
  made a b k = (remaining price g k).linked (picked price g k) a && (remaining price g k).linked (picked price g k) b

  -- the links when j are gone: those of the sheet, and those that an elimination made
  pub linked_after : (j a b : ℕ) → (remaining price g j).linked a b ≡ (g.linked a b || any_below (made a b) j)
  linked_after zero a b = grind arith
  linked_after (suc j) a b = grind (arith, linked_after j a b)

pub column_equation : (price : Price) (n : ℕ) (linked : ℕ → ℕ → Bool) → ColumnEquation price n linked
column_equation price n linked j i = let g = start n linked in linked_after price g j (picked price g j) (picked price g i)
