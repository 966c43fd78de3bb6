-- What the look-ups answer of a plan, in the subject's words.
use Rattle.std.specs.Prelude.{◌≡◌, ℕ, zero, suc, ◌≤◌, Bool, length}
use Rattle.graph.specs.Columns.{label_at, column, parent}
use Rattle.graph.specs.Graphs.{Graph, start}
use Rattle.graph.specs.Picking.{Price}
use Rattle.plan.specs.Lookups.{size_in, label_in, position_in, rows_in, parent_in}
use Rattle.plan.specs.Planned.{arrays_for, place_count}

-- the label at a position, 0 at position 0, which a root has for a parent
abbrev pub label_up : Price → Graph → ℕ → ℕ
label_up price g zero = 0
label_up price g (suc k) = label_at price g (suc k)

-- The plan that the definitions give answers with the labels in the order in which they go, their positions, the columns and the
-- parents of the elimination, and as many places as these have.
pub record Answers (price : Price) (n : ℕ) (linked : ℕ → ℕ → Bool) : Type 0 where
  pub size : size_in (arrays_for price n linked) ≡ n
  pub places : length (arrays_for price n linked).rows ≡ place_count price n linked
  pub labels : (k : ℕ) → 1 ≤ k → k ≤ n → label_in (arrays_for price n linked) k ≡ label_at price (start n linked) k
  pub positions : (k : ℕ) → 1 ≤ k → k ≤ n → position_in (arrays_for price n linked) (label_at price (start n linked) k) ≡ k
  pub columns : (k : ℕ) → 1 ≤ k → k ≤ n → rows_in (arrays_for price n linked) k ≡ column price (start n linked) n k
  pub parents : (k : ℕ) → 1 ≤ k → k ≤ n → parent_in (arrays_for price n linked) k ≡ label_up price (start n linked) (parent price (start n linked) n k)
