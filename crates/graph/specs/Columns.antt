-- The columns of the filled pattern, the elimination tree and the fill. Positions count from 1 here.
use Rattle.std.specs.Prelude.{ℕ, zero, suc, ◌+◌, ◌-◌, Bool, false, not, ◌||◌, List, [], ◌∷◌, map, length, filter, ◌==◌}
use Rattle.std.specs.List.{range_with_len, flat_map}
use Rattle.graph.specs.Graphs.{Graph}
use Rattle.graph.specs.Picking.{Price, next, remaining, picked}

-- whether the label picked when i are gone is a neighbour of the one picked when k are gone, as that one goes (for k < i)
abbrev pub in_column : Price → Graph → ℕ → ℕ → Bool
in_column price g k i = let h = remaining price g k in h.linked (next price h) (picked price g i)

-- the label at position k
abbrev pub label_at : Price → Graph → ℕ → ℕ
label_at price g k = picked price g (k - 1)

-- the rows of column k, of n: the positions of the neighbours of the label at position k when it goes
abbrev pub column : Price → Graph → ℕ → ℕ → List ℕ
column price g n k = filter (λ i. in_column price g (k - 1) (i - 1)) (range_with_len (k + 1) (n - k))

abbrev pub columns : Price → Graph → ℕ → List (List ℕ)
columns price g n = map (column price g n) (range_with_len 1 n)

-- a diagonal and a place for each row, column after column
abbrev pub places : List (List ℕ) → ℕ
places [] = 0
places (c ∷ cs) = 1 + length c + places cs

-- the lowest position of a column; 0 at a root, whose column is empty
abbrev pub lowest : List ℕ → ℕ
lowest [] = 0
lowest (i ∷ is) = i

-- the parent of position k
abbrev pub parent : Price → Graph → ℕ → ℕ → ℕ
parent price g n k = lowest (column price g n k)

-- m parents up from position k
abbrev pub ancestor : Price → Graph → ℕ → ℕ → ℕ → ℕ
ancestor price g n zero k = k
ancestor price g n (suc m) k = ancestor price g n m (parent price g n k)

abbrev pub member : ℕ → List ℕ → Bool
member v [] = false
member v (x ∷ xs) = x == v || member v xs

-- whether the test holds of a number below the bound
abbrev pub any_below : (ℕ → Bool) → ℕ → Bool
any_below test zero = false
any_below test (suc k) = any_below test k || test k

-- the labels of column k and of each of its rows that are not linked on the sheet
abbrev pub fill_of : Price → Graph → ℕ → ℕ → List (ℕ × ℕ)
fill_of price g n k =
    map (λ i. (label_at price g k, label_at price g i))
    (filter (λ i. not (g.linked (label_at price g k) (label_at price g i))) (column price g n k))

-- the fill of all n columns
abbrev pub fill : Price → Graph → ℕ → List (ℕ × ℕ)
fill price g n = flat_map (fill_of price g n) (range_with_len 1 n)
