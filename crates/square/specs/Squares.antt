-- The full square and what it knows of a site. Labels and positions count from 1.
use Rattle.std.specs.Prelude.{ℕ, Bool}
use Rattle.arith.specs.Operations.{Operations}
use Rattle.square.specs.declared.standings.Standing.{Standing}
use Rattle.square.specs.declared.standings.Standing.TheVariants.{Bare}

-- a number at each pair of positions (i, j), of which those with i ≥ j are meant
abbrev pub Matrix : Type 0 → Type 0
Matrix X = ℕ → ℕ → X

-- the number of nodes, whether two labels are linked on the sheet, the label at each position, the position of each label, and
-- how many places the plan has
pub record Site : Type 0 where
  pub size : ℕ
  pub linked : ℕ → ℕ → Bool
  pub label : ℕ → ℕ
  pub position : ℕ → ℕ
  pub places : ℕ

-- how long the tables of entered and of worked numbers are that the calls are lent
pub record Lengths : Type 0 where
  pub entered : ℕ
  pub worked : ℕ

pub record Square (X : Type 0) : Type 0 where
  pub entered : Matrix X
  pub worked : Matrix X
  pub standing : Standing
  pub tally : ℕ

-- the square before the first call
abbrev pub bare : {X : Type 0} → Operations X → Square X
bare o = record { entered = λ i j. o.nothing; worked = λ i j. o.nothing; standing = Bare; tally = 0 }
