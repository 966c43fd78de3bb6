-- Which label goes next. Counts here are of the labels that are gone: the label that is picked when k are gone has position k + 1.
use Rattle.std.specs.Prelude.{ℕ, zero, suc, ◌+◌, ◌-◌, ◌^◌, cond, List, [], ◌∷◌, map, ◌==◌, nat_lt}
use Rattle.std.specs.List.{range_with_len}
use Rattle.graph.specs.Graphs.{Graph, degree, eliminate}

-- a rule's price of a label at its present degree
abbrev pub Price : Type 0
Price = ℕ → ℕ → ℕ

-- the first of least price among b and the labels after it
abbrev pub least : (ℕ → ℕ) → ℕ → List ℕ → ℕ
least p b [] = b
least p b (x ∷ xs) = least p (cond (nat_lt (p x) (p b)) x b) xs

abbrev pub first_of : (ℕ → ℕ) → List ℕ → ℕ
first_of p [] = 0
first_of p (x ∷ xs) = least p x xs

-- the label of least price; labels ascend, so of equal prices the lowest
abbrev pub next : Price → Graph → ℕ
next price g = first_of (λ v. price v (degree g v)) g.left

-- the graph when k labels are gone
abbrev pub remaining : Price → Graph → ℕ → Graph
remaining price g zero = g
remaining price g (suc k) = let h = remaining price g k in eliminate h (next price h)

-- the label that goes when k are gone
abbrev pub picked : Price → Graph → ℕ → ℕ
picked price g k = next price (remaining price g k)

-- the first n labels in the order in which they go
abbrev pub order : Price → Graph → ℕ → List ℕ
order price g n = map (λ k. picked price g k) (range_with_len 0 n)

-- the price of least degree: the degree
abbrev pub by_degree : Price
by_degree v d = d

-- the place of v among the labels, the first of which has place m; 2 ^ 32 - 1 where v is none of them
abbrev pub place_from : ℕ → List ℕ → ℕ → ℕ
place_from m [] v = 2 ^ 32 - 1
place_from m (x ∷ xs) v = cond (x == v) m (place_from (m + 1) xs v)

-- the price of a given order: the label's place in it, counted from 1
abbrev pub by_order : List ℕ → Price
by_order given v d = place_from 1 given v
