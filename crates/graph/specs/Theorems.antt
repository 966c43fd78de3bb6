-- What every elimination keeps, for every price, every n and all links.
use Rattle.std.specs.Prelude.{◌≡◌, ℕ, ◌<◌, ◌≤◌, Bool, true, ◌&&◌, ◌||◌, ◌⊎◌, ◌↔◌, ◌≢◌}
use Rattle.graph.specs.Columns.{in_column, label_at, column, parent, ancestor, member, any_below}
use Rattle.graph.specs.Graphs.{Graph, start, neighbours, degree}
use Rattle.graph.specs.Picking.{Price, remaining, picked}

-- The order is a permutation of the labels: each of 1 to n goes once.
pub record Permutes (price : Price) (n : ℕ) (linked : ℕ → ℕ → Bool) : Type 0 where
  pub labels : (k : ℕ) → k < n → (1 ≤ picked price (start n linked) k) × (picked price (start n linked) k ≤ n)
  pub once : (k j : ℕ) → k < j → j < n → picked price (start n linked) k ≢ picked price (start n linked) j
  pub all : (v : ℕ) → 1 ≤ v → v ≤ n → (k : ℕ) × (k < n) × (picked price (start n linked) k ≡ v)

-- v is left, and each other label left has a higher price, or the same price and a higher label
pub record IsNext (price : Price) (g : Graph) (v : ℕ) : Type 0 where
  pub left : member v g.left ≡ true
  pub least : (w : ℕ) → member w g.left ≡ true → (price v (degree g v) < price w (degree g w)) ⊎ ((price v (degree g v) ≡ price w (degree g w)) × (v ≤ w))

-- Each label that goes is the one next label.
abbrev pub PicksNext : Price → ℕ → (ℕ → ℕ → Bool) → Type 0
PicksNext price n linked = (k v : ℕ) → k < n → IsNext price (remaining price (start n linked) k) v ↔ (v ≡ picked price (start n linked) k)

-- A column has the positions of the neighbours of its label, as that goes.
abbrev pub HoldsNeighbours : Price → ℕ → (ℕ → ℕ → Bool) → Type 0
HoldsNeighbours price n linked = (k i : ℕ) → k < i → i < n
    → in_column price (start n linked) k i ≡ member (picked price (start n linked) i) (neighbours (remaining price (start n linked) k) (picked price (start n linked) k))

-- The column equation: i is in column j exactly when their labels are linked on the sheet or an earlier column has both.
abbrev pub ColumnEquation : Price → ℕ → (ℕ → ℕ → Bool) → Type 0
ColumnEquation price n linked = let g = start n linked in (j i : ℕ)
    → in_column price g j i ≡ (linked (picked price g j) (picked price g i) || any_below (λ k. in_column price g k j && in_column price g k i) j)

-- The parents make a forest: a parent lies above its position, and every row of column k is an ancestor of k.
pub record MakesForest (price : Price) (n : ℕ) (linked : ℕ → ℕ → Bool) : Type 0 where
  pub above : (k : ℕ) → (parent price (start n linked) n k ≡ 0) ⊎ (k < parent price (start n linked) n k)
  pub ancestors : (k i : ℕ) → 1 ≤ k → member i (column price (start n linked) n k) ≡ true → (m : ℕ) × (ancestor price (start n linked) n m k ≡ i)

-- a path over links of the sheet from label a to label b, whose inner labels all have positions below j
pub data Path (price : Price) (g : Graph) (j : ℕ) : ℕ → ℕ → Type 0 where
  link : {a b : ℕ} → g.linked a b ≡ true → Path price g j a b
  through : {a b : ℕ} (k : ℕ) → 1 ≤ k → k < j → g.linked a (label_at price g k) ≡ true → Path price g j (label_at price g k) b → Path price g j a b

-- links go both ways
abbrev pub TwoWay : (ℕ → ℕ → Bool) → Type 0
TwoWay linked = (a b : ℕ) → linked a b ≡ linked b a

-- Column j has i exactly when such a path leads from the label of i to the label of j.
abbrev pub ColumnsArePaths : Price → ℕ → (ℕ → ℕ → Bool) → Type 0
ColumnsArePaths price n linked = let g = start n linked in (j i : ℕ) → 1 ≤ j → j < i → i ≤ n
    → (member i (column price g n j) ≡ true) ↔ Path price g j (label_at price g i) (label_at price g j)

-- all of it
pub record Eliminates (price : Price) (n : ℕ) (linked : ℕ → ℕ → Bool) : Type 0 where
  pub permutation : Permutes price n linked
  pub picks : PicksNext price n linked
  pub neighbours : HoldsNeighbours price n linked
  pub equation : ColumnEquation price n linked
  pub forest : MakesForest price n linked
  pub paths : TwoWay linked → ColumnsArePaths price n linked
