-- What a sheet holds, in words.
use Rattle.std.specs.Prelude.{ℕ, List, [], ◌∷◌, ◌++◌, length, codes, decimal}
use Rattle.std.specs.List.{filter, range_with_len, flat_map}
use Rattle.sheet.specs.Patterns.{Pattern, linked_in}

-- the labels of n nodes: 1 to n
abbrev pub labels : ℕ → List ℕ
labels n = range_with_len 1 n

-- a label with a space before it
abbrev pub spaced_label : ℕ → List ℕ
spaced_label a = codes " " ++ decimal a

-- labels in turn
abbrev pub spaced : List ℕ → List ℕ
spaced xs = flat_map spaced_label xs

-- the labels that a is linked to, ascending
abbrev pub neighbours_text : Pattern → ℕ → List ℕ
neighbours_text s a = spaced (filter (linked_in s.links a) (labels s.n))

-- a label, a colon and its neighbours
abbrev pub node_line : Pattern → ℕ → List ℕ
node_line s a = decimal a ++ (codes " :" ++ (neighbours_text s a ++ codes "\n"))

-- a line for each node in turn
abbrev pub node_lines : Pattern → List ℕ
node_lines s = flat_map (node_line s) (labels s.n)

-- the order labels, or no line where there are none
abbrev pub order_line : List ℕ → List ℕ
order_line [] = []
order_line (x ∷ xs) = codes "order :" ++ (spaced (x ∷ xs) ++ codes "\n")

-- the counts, a line for each node, and the order
abbrev pub account_text : Pattern → List ℕ
account_text s =
    codes "nodes " ++ (decimal s.n ++ (codes "\nlinks " ++ (decimal (length s.links) ++ (codes "\norder words " ++ (decimal (length s.order)
    ++ (codes "\n" ++ (node_lines s ++ order_line s.order)))))))
