-- Six small patterns, worked by the definitions.
use Rattle.std.specs.Prelude.{◌≡◌, ℕ, Bool, false, ◌&&◌, ◌||◌, List, [], ◌∷◌, map, length, ◌==◌}
use Rattle.std.specs.List.{range_with_len}
use Rattle.graph.specs.Columns.{columns, places, parent, fill}
use Rattle.graph.specs.Graphs.{Graph, start}
use Rattle.graph.specs.Picking.{Price, order, by_degree, by_order}

-- links from a list of pairs
abbrev pub among : List (ℕ × ℕ) → ℕ → ℕ → Bool
among [] a b = false
among (p ∷ ps) a b = (p.0 == a && p.1 == b) || (p.0 == b && p.1 == a) || among ps a b

abbrev pub one : Graph
one = start 1 (among [])

abbrev pub three : Graph
three = start 3 (among ((1, 3) ∷ []))

abbrev pub path : Graph
path = start 4 (among ((1, 2) ∷ (2, 3) ∷ (3, 4) ∷ []))

abbrev pub ring : Graph
ring = start 4 (among ((1, 2) ∷ (2, 3) ∷ (3, 4) ∷ (4, 1) ∷ []))

abbrev pub hub : Graph
hub = start 5 (among ((1, 2) ∷ (1, 3) ∷ (1, 4) ∷ (1, 5) ∷ []))

abbrev pub given : Price
given = by_order (1 ∷ 2 ∷ 3 ∷ 4 ∷ 5 ∷ [])

-- the parent of each of n positions
abbrev pub parents : Price → Graph → ℕ → List ℕ
parents price g n = map (parent price g n) (range_with_len 1 n)

pub record WorkedPatterns : Type 0 where
  pub one_order : order by_degree one 1 ≡ 1 ∷ []
  pub one_places : places (columns by_degree one 1) ≡ 1
  pub three_order : order by_degree three 3 ≡ 2 ∷ 1 ∷ 3 ∷ []
  pub three_parents : parents by_degree three 3 ≡ 0 ∷ 3 ∷ 0 ∷ []
  pub three_places : places (columns by_degree three 3) ≡ 4
  pub path_order : order by_degree path 4 ≡ 1 ∷ 2 ∷ 3 ∷ 4 ∷ []
  pub path_places : places (columns by_degree path 4) ≡ 7
  pub path_fill : fill by_degree path 4 ≡ []
  pub ring_order : order by_degree ring 4 ≡ 1 ∷ 2 ∷ 3 ∷ 4 ∷ []
  pub ring_columns : columns by_degree ring 4 ≡ (2 ∷ 4 ∷ []) ∷ (3 ∷ 4 ∷ []) ∷ (4 ∷ []) ∷ [] ∷ []
  pub ring_places : places (columns by_degree ring 4) ≡ 9
  pub ring_fill : fill by_degree ring 4 ≡ (2, 4) ∷ []
  pub hub_order : order by_degree hub 5 ≡ 2 ∷ 3 ∷ 4 ∷ 1 ∷ 5 ∷ []
  pub hub_places : places (columns by_degree hub 5) ≡ 9
  pub hub_given_order : order given hub 5 ≡ 1 ∷ 2 ∷ 3 ∷ 4 ∷ 5 ∷ []
  pub hub_given_places : places (columns given hub 5) ≡ 15
  pub hub_given_fill : length (fill given hub 5) ≡ 6
