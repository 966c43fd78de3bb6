-- What a plan tells the square, and the numbers that a table holds at the places of a plan.
use Rattle.std.specs.Prelude.{ℕ, Bool, false, cond, ◌&&◌, List, length, is_some, Some, None, Option, nat_le, nat_lt, slice_index_or}
use Rattle.plan.specs.Lookups.{size_in, label_in, position_in, place_in, place_of}
use Rattle.plan.specs.Planned.{Arrays}
use Rattle.square.specs.Squares.{Matrix, Site}

-- what a table has at a place, and nothing where there is no place
abbrev pub number_at : {X : Type 0} → X → List X → Option ℕ → X
number_at nothing t (Some p) = slice_index_or t p nothing
number_at nothing t None = nothing

-- whether a place, where there is one, is a link of the sheet
abbrev pub link_at : Arrays → Option ℕ → Bool
link_at a = number_at false a.links

-- what the square knows of a plan
abbrev pub site_of : Arrays → Site
site_of a = record {
  size = size_in a;
  linked = λ v w. link_at a (place_of a v w);
  label = label_in a;
  position = position_in a;
  places = length a.rows;
}

-- the place of positions i and j in the store, where the plan has one
abbrev pub place_at : Arrays → ℕ → ℕ → Option ℕ
place_at a i j = cond (nat_lt 0 j && nat_le j (size_in a)) (place_in a i j) None

-- the store of a plan: its places
abbrev pub store_of : Arrays → ℕ → ℕ → Bool
store_of a i j = is_some (place_at a i j)

-- the matrix that a table stands for: its number at each place of the plan, and nothing elsewhere
abbrev pub matrix_of : {X : Type 0} → X → Arrays → List X → Matrix X
matrix_of nothing a t i j = number_at nothing t (place_at a i j)
