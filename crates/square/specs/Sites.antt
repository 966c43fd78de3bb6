-- What the square of a sheet's plan knows.
use Rattle.std.specs.Prelude.{◌≡◌, ℕ, ◌≤◌, ◌≢◌}
use Rattle.graph.specs.Columns.{label_at}
use Rattle.graph.specs.Graphs.{start}
use Rattle.graph.specs.Picking.{Price}
use Rattle.plan.specs.Planned.{place_count}
use Rattle.sheet.specs.Patterns.{Pattern, linked_in}
use Rattle.square.specs.Squares.{Site}

-- the sheet's number of nodes and its links, the order in which its labels go by the price, and the number of places
pub record Knows (price : Price) (s : Pattern) (f : Site) : Type 0 where
  pub size : f.size ≡ s.n
  pub links : (a b : ℕ) → 1 ≤ a → a ≤ s.n → 1 ≤ b → b ≤ s.n → (a ≢ b) → f.linked a b ≡ linked_in s.links a b
  pub labels : (k : ℕ) → 1 ≤ k → k ≤ s.n → f.label k ≡ label_at price (start s.n (linked_in s.links)) k
  pub positions : (k : ℕ) → 1 ≤ k → k ≤ s.n → f.position (label_at price (start s.n (linked_in s.links)) k) ≡ k
  pub places : f.places ≡ place_count price s.n (linked_in s.links)
