-- What the planner's tables show when k nodes are gone.
use Rattle.std.specs.Prelude.{◌≡◌, ℕ, zero, suc, ◌+◌, ◌<◌, Bool, false, List, map}
use Rattle.std.specs.List.{range_with_len}
use Rattle.graph.specs.Columns.{member}
use Rattle.graph.specs.Graphs.{Graph, start, neighbours, degree}
use Rattle.graph.specs.Picking.{Price, next, remaining, picked}
use Rattle.plan.specs.declared.records.NodeRecord.{NodeRecord}
use Rattle.plan.specs.Tables.{Grid, gone_in, degree_in, labels}

-- the places of the first k columns: a diagonal, and a place for each neighbour
abbrev pub spent : Price → Graph → ℕ → ℕ
spent price g zero = 0
spent price g (suc k) = let h = remaining price g k in spent price g k + (1 + degree h (next price h))

-- The records have the labels that are left with their degrees, and `listed` has these labels. The row of a label that is left
-- has its neighbours, and the row of a label that is gone those that it had as it went. `order` has the labels that went.
pub record Stands (price : Price) (n : ℕ) (linked : ℕ → ℕ → Bool) (k : ℕ) (nodes : List NodeRecord) (held : Grid) (listed order : List ℕ) (places : ℕ) : Type 0 where
  pub left : labels 1 nodes ≡ (remaining price (start n linked) k).left
  pub lists : listed ≡ (remaining price (start n linked) k).left
  pub degrees : (a : ℕ) → a < n → gone_in nodes a ≡ false → degree_in nodes a ≡ degree (remaining price (start n linked) k) (a + 1)
  pub rows : (a b : ℕ) → a < n → b < n → gone_in nodes a ≡ false → held a b ≡ member (b + 1) (neighbours (remaining price (start n linked) k) (a + 1))
  pub went : (j a b : ℕ) → j < k → a + 1 ≡ picked price (start n linked) j → b < n → held a b ≡ member (b + 1) (neighbours (remaining price (start n linked) j) (a + 1))
  pub chosen : order ≡ map (λ j. picked price (start n linked) j) (range_with_len 0 k)
  pub sum : places ≡ spent price (start n linked) k
