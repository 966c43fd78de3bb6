-- Graphs in rows of sets.
use Rattle.std.specs.Prelude.{ℕ, Bool, cond, not, ◌&&◌, ◌||◌, List, replicate, vec_items, ◌==◌, nat_lt, slice_index_or}
use Rattle.nodeset.specs.declared.rows.Rows.{Rows}
use Rattle.nodeset.specs.declared.sets.NodeSet.{NodeSet}
use Rattle.nodeset.specs.Sets.{has}

-- what is read past the rows
abbrev pub no_nodes : NodeSet
no_nodes = record { words = replicate 8 0 }

-- whether two nodes are linked, in rows
abbrev pub in_rows : List NodeSet → ℕ → ℕ → Bool
in_rows sets a b = has (slice_index_or sets a no_nodes) b

-- whether two nodes of a graph are linked, from the first to the second
abbrev pub linked_in : Rows → ℕ → ℕ → Bool
linked_in g = in_rows (vec_items g.sets)

-- links, and that of a and b too, if both are below 512
abbrev pub linked_also : (ℕ → ℕ → Bool) → ℕ → ℕ → ℕ → ℕ → Bool
linked_also linked a b i j = linked i j || ((nat_lt a 512 && nat_lt b 512) && ((a == i && b == j) || (b == i && a == j)))

-- links, where a has got those of v but for a and v, if both are below 512
abbrev pub joined_to : (ℕ → ℕ → Bool) → ℕ → ℕ → ℕ → ℕ → Bool
joined_to linked v a i j = cond ((nat_lt v 512 && nat_lt a 512) && a == i) (((linked v j || linked a j) && not (a == j)) && not (v == j)) (linked i j)
