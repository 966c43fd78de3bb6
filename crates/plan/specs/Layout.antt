-- What the arrays of a plan keep, over lists. Positions and labels count from 1, and stand at one less.
use Rattle.std.specs.Prelude.{◌≡◌, ℕ, zero, suc, ◌+◌, ◌-◌, ◌<◌, ◌≤◌, Bool, false, ◌&&◌, ◌||◌, List, [], ◌∷◌, length, drop, ◌==◌, slice_index}
use Rattle.graph.specs.Columns.{any_below}

-- each entry of xs is one of 1 to n, and ys undoes xs
abbrev pub Undoes : ℕ → List ℕ → List ℕ → Type 0
Undoes n xs ys = (k : ℕ) → k < n → (0 < slice_index xs k) × (slice_index xs k ≤ n) × (slice_index ys (slice_index xs k - 1) ≡ k + 1)

-- the starts: one more than the columns, from 0 up to the number of places, each column with its diagonal
abbrev pub Starts : ℕ → List ℕ → List ℕ → Type 0
Starts n starts rows = (slice_index starts 0 ≡ 0) × (slice_index starts n ≡ length rows) × ((k : ℕ) → k < n → slice_index starts k < slice_index starts (k + 1))

-- each column begins with its diagonal
abbrev pub Diagonals : ℕ → List ℕ → List ℕ → Type 0
Diagonals n starts rows = (k : ℕ) → k < n → slice_index rows (slice_index starts k) ≡ k + 1

-- and ascends
abbrev pub Rises : ℕ → List ℕ → List ℕ → Type 0
Rises n starts rows =
    (k p : ℕ) → k < n → (slice_index starts k ≤ p) × (p + 1 < slice_index starts (k + 1)) → slice_index rows p < slice_index rows (p + 1)

-- up to n at most
abbrev pub Within : ℕ → List ℕ → Type 0
Within n rows = (p : ℕ) → p < length rows → slice_index rows p ≤ n

-- whether i is among the first m rows
abbrev pub among_rows : List ℕ → ℕ → ℕ → Bool
among_rows [] m i = false
among_rows (x ∷ xs) zero i = false
among_rows (x ∷ xs) (suc m) i = x == i || among_rows xs m i

-- whether the column at index k has position i
abbrev pub holds : List ℕ → List ℕ → ℕ → ℕ → Bool
holds starts rows k i = among_rows (drop (slice_index starts k) rows) (slice_index starts (k + 1) - slice_index starts k) i

-- the mark beside i among the first m rows
abbrev pub marked : List ℕ → List Bool → ℕ → ℕ → Bool
marked [] ms m i = false
marked (x ∷ xs) [] m i = false
marked (x ∷ xs) (b ∷ ms) zero i = false
marked (x ∷ xs) (b ∷ ms) (suc m) i = (x == i && b) || marked xs ms m i

-- whether the place of position i in the column at index k is a link of the sheet
abbrev pub on_sheet : List ℕ → List ℕ → List Bool → ℕ → ℕ → Bool
on_sheet starts rows marks k i =
    marked (drop (slice_index starts k) rows) (drop (slice_index starts k) marks) (slice_index starts (k + 1) - slice_index starts k) i

-- the column equation: position i is in the column at index j exactly when the two are linked on the sheet or an earlier column has both
abbrev pub Closed : ℕ → List ℕ → List ℕ → List Bool → Type 0
Closed n starts rows marks = (j i : ℕ) → (j < n) × (j + 1 < i)
    → holds starts rows j i ≡ (on_sheet starts rows marks j i || any_below (λ k. holds starts rows k (j + 1) && holds starts rows k i) j)
