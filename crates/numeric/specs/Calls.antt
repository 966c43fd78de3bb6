-- What elimination and solving answer, and what they leave in the tables that they are lent.
use Rattle.std.specs.Prelude.{◌≡◌, ℕ, Bool, true, cond, ◌&&◌, List, ◌∷◌, map, length, Ok, Err, Option, Result, ◌==◌}
use Rattle.std.specs.List.{range_with_len, flat_map}
use Rattle.arith.specs.Operations.{Operations, Solvers}
use Rattle.plan.specs.Lookups.{size_in, rows_in}
use Rattle.plan.specs.Planned.{Arrays}
use Rattle.square.specs.declared.refusals.Refusal.{Refusal}
use Rattle.square.specs.declared.refusals.Refusal.TheVariants.{WrongLength}
use Rattle.square.specs.Calls.{answer_after, levels}
use Rattle.square.specs.Elimination.{Work, eliminated}
use Rattle.square.specs.Plans.{site_of, matrix_of}
use Rattle.square.specs.Squares.{Matrix}

-- the table of a matrix: its numbers at the places of a plan, column after column, the diagonal of each first
abbrev pub table_of : {X : Type 0} → Arrays → Matrix X → List X
table_of a m = flat_map (λ k. map (λ i. m i k) (k ∷ rows_in a k)) (range_with_len 1 (size_in a))

-- ---- elimination

-- what the full square comes to from the matrix of a table
abbrev pub work_of : {X : Type 0} → Operations X → Arrays → List X → Work X
work_of o a entered = eliminated o (matrix_of o.nothing a entered) (size_in a)

-- the answer to an elimination by where it stuck: the label there, and the cause
abbrev pub answer_of : Arrays → Option (ℕ × ℕ) → Result (Unit {0}) Refusal
answer_of a = answer_after (site_of a) tt

-- whether both tables have a number for each place
abbrev pub both_fit : {X : Type 0} → Arrays → List X → List X → Bool
both_fit a entered worked = length entered == length a.rows && length worked == length a.rows

-- The answer to an elimination and the worked table after it are the full square's, unless a table has another length: that is
-- refused and changes nothing. Where the plan has no place, the square's numbers are nothing.
pub record Eliminates {X : Type 0} (o : Operations X) (a : Arrays) (entered before : List X) (r : Result (Unit {0}) Refusal) (after : List X) : Type 0 where
  pub answer : r ≡ cond (both_fit a entered before) (answer_of a (work_of o a entered).stuck) (Err WrongLength)
  pub table : after ≡ cond (both_fit a entered before) (table_of a (work_of o a entered).numbers) before
  pub matrix : both_fit a entered before ≡ true → (i j : ℕ) → matrix_of o.nothing a after i j ≡ (work_of o a entered).numbers i j

-- ---- solving

-- whether the worked table has a number for each place, and the other two one for each node
abbrev pub all_fit : {X : Type 0} → Arrays → List X → List X → List X → Bool
all_fit a worked right result = length worked == length a.rows && (length right == size_in a && length result == size_in a)

-- The result table holds the full square's levels after a solve, unless a table has another length: that is refused and changes
-- nothing.
pub record Solves {X : Type 0} (s : Solvers X) (a : Arrays) (worked right before : List X) (r : Result (Unit {0}) Refusal) (after : List X) : Type 0 where
  pub answer : r ≡ cond (all_fit a worked right before) (Ok tt) (Err WrongLength)
  pub table : after ≡ cond (all_fit a worked right before) (levels s (site_of a) (matrix_of s.base.nothing a worked) right) before
