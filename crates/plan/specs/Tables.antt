-- The planner's rows and records. Indices count from 0: row a, column a and record a are of label a + 1.
use Rattle.std.specs.Prelude.{◌≡◌, ℕ, ◌+◌, ◌<◌, ◌≤◌, Bool, false, cond, not, ◌&&◌, ◌||◌, List, [], ◌∷◌, map, ◌==◌, nat_lt, slice_index_or}
use Rattle.std.specs.List.{range_with_len}
use Rattle.nodeset.specs.Sets.{count_below}
use Rattle.plan.specs.declared.records.NodeRecord.{NodeRecord}

-- which columns each row has
abbrev pub Grid : Type 0
Grid = ℕ → ℕ → Bool

-- row a with row v joined to it, without the columns of the two
abbrev pub joined_cell : Grid → ℕ → ℕ → ℕ → Bool
joined_cell rows v a b = not (b == a) && (not (b == v) && (rows a b || rows v b))

-- the rows after row v was joined to row a
abbrev pub joined_rows : Grid → ℕ → ℕ → Grid
joined_rows rows v a r b = cond (r == a) (joined_cell rows v a b) (rows r b)

-- the rows after row v was joined to each row below m that it has
abbrev pub settled_rows : Grid → ℕ → ℕ → Grid
settled_rows rows v m r b = cond (nat_lt r m && rows v r) (joined_cell rows v r b) (rows r b)

-- the same in the n × n that are used
abbrev pub Agree : ℕ → Grid → Grid → Type 0
Agree n rows others = (r b : ℕ) → r < n → b < n → rows r b ≡ others r b

-- no row has its own column
abbrev pub Alone : ℕ → Grid → Type 0
Alone n rows = (a : ℕ) → a < n → rows a a ≡ false

-- no row has a column from n on
abbrev pub Inside : ℕ → Grid → Type 0
Inside n rows = (a b : ℕ) → n ≤ b → rows a b ≡ false

-- what is read past the records
abbrev pub blank : NodeRecord
blank = record { degree = 0; gone = false }

abbrev pub gone_in : List NodeRecord → ℕ → Bool
gone_in nodes a = (slice_index_or nodes a blank).gone

abbrev pub degree_in : List NodeRecord → ℕ → ℕ
degree_in nodes a = (slice_index_or nodes a blank).degree

-- records of the first m nodes, none gone, with the degrees that their rows give
abbrev pub fresh_nodes : Grid → ℕ → ℕ → List NodeRecord
fresh_nodes rows n m = map (λ a. record { degree = count_below (rows a) n; gone = false }) (range_with_len 0 m)

-- the labels that are not gone, from label v on
abbrev pub labels : ℕ → List NodeRecord → List ℕ
labels v [] = []
labels v (r ∷ rs) = cond r.gone (labels (v + 1) rs) (v ∷ labels (v + 1) rs)

-- of the nodes below m, those in row v of the rows have the degrees that the joining gives them; the rest is as it was
pub record Recounted (n : ℕ) (rows : Grid) (v m : ℕ) (old new : List NodeRecord) : Type 0 where
  pub flags : (r : ℕ) → r < n → gone_in new r ≡ gone_in old r
  pub degrees : (r : ℕ) → r < n → degree_in new r ≡ cond (nat_lt r m && rows v r) (count_below (joined_cell rows v r) n) (degree_in old r)
