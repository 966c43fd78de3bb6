-- The text of a listing: over the arrays of a plan, and by the definitions of the elimination.
use Rattle.std.specs.Prelude.{◌≡◌, ℕ, Bool, List, ◌++◌, map, length, codes, decimal}
use Rattle.std.specs.List.{range_with_len, flat_map}
use Rattle.graph.specs.Columns.{label_at, column, parent}
use Rattle.graph.specs.Graphs.{Graph, start}
use Rattle.graph.specs.Picking.{Price}
use Rattle.plan.specs.Lookups.{size_in, label_in, rows_in, parent_in}
use Rattle.plan.specs.Planned.{Arrays, arrays_for, place_count}
use Rattle.plan.specs.Subject.{label_up}

-- a number with a space before it
abbrev pub spaced : ℕ → List ℕ
spaced x = codes " " ++ decimal x

-- the first line: "plan", n, P
abbrev pub head_text : ℕ → ℕ → List ℕ
head_text n places = codes "plan" ++ (spaced n ++ (spaced places ++ codes "\n"))

-- the line of a position: the position, its label, its parent's label, a colon, and the labels of its rows
abbrev pub line_text : ℕ → ℕ → ℕ → List ℕ → List ℕ
line_text k own above below = decimal k ++ (spaced own ++ (spaced above ++ (codes " :" ++ (flat_map spaced below ++ codes "\n"))))

-- the line of position k of a plan
abbrev pub line_in : Arrays → ℕ → List ℕ
line_in a k = line_text k (label_in a k) (parent_in a k) (map (label_in a) (rows_in a k))

-- the listing of a plan: the first line, and then each position in turn
abbrev pub listing_text : Arrays → List ℕ
listing_text a = head_text (size_in a) (length a.rows) ++ flat_map (line_in a) (range_with_len 1 (size_in a))

-- the line of position k, by the definitions
abbrev pub line_for : Price → Graph → ℕ → ℕ → List ℕ
line_for price g n k =
    line_text k (label_at price g k) (label_up price g (parent price g n k)) (map (label_at price g) (column price g n k))

-- the text of the elimination of n nodes with their links
abbrev pub plan_text : Price → ℕ → (ℕ → ℕ → Bool) → List ℕ
plan_text price n linked = head_text n (place_count price n linked) ++ flat_map (line_for price (start n linked) n) (range_with_len 1 n)

-- For the arrays that the definitions give, the listing is that text.
abbrev pub ListsPlan : Type 0
ListsPlan = (price : Price) (n : ℕ) (linked : ℕ → ℕ → Bool) → listing_text (arrays_for price n linked) ≡ plan_text price n linked
