-- Kinds of number by their operations, and the operations of floats, residues and marks.
use Rattle.std.specs.Prelude.{ℕ, Float}
use Rattle.arith.specs.declared.arithmetic.Arithmetic.{Ghosts}
use Rattle.arith.specs.declared.marks.Mark.{Mark}
use Rattle.arith.specs.declared.residues.Residue.{Residue}
use Rattle.arith.specs.Floats.{plus_zero, updated_float, judged_float, taken_float, divided_float}
use Rattle.arith.specs.Marks.{off, updated_mark, judged_mark}
use Rattle.arith.specs.Residues.{residue, updated_residue, judged_residue, taken_residue, divided_residue}

-- what elimination needs
pub record Operations (X : Type 0) : Type 0 where
  pub nothing : X
  -- a u d v: what a becomes in a step with pivot d, where u stands in a's row and v in the row of a's column
  pub updated : X → X → X → X → X
  -- 0: the number may be a pivot; any other: the cause why not
  pub judged : X → ℕ

-- what solving needs besides
pub record Solvers (X : Type 0) : Type 0 where
  pub base : Operations X
  -- b u y: what is left of b without u times y
  pub taken : X → X → X → X
  -- b d: b over d
  pub divided : X → X → X

-- the operations of an implementation, by its ghost members
abbrev pub operations_of : {X : Type 0} → Ghosts X → Operations X
operations_of g = record { nothing = g.nothing; updated = g.updated; judged = g.judged }

-- and those of one that solves, by what it has besides
abbrev pub solvers_of : {X : Type 0} → Ghosts X → (X → X → X → X) → (X → X → X) → Solvers X
solvers_of g taken divided = record { base = operations_of g; taken = taken; divided = divided }

abbrev pub floats : Solvers Float
floats = record {
  base = record { nothing = plus_zero; updated = updated_float; judged = judged_float };
  taken = taken_float;
  divided = divided_float;
}

abbrev pub residues : Solvers Residue
residues = record {
  base = record { nothing = residue 0; updated = updated_residue; judged = judged_residue };
  taken = taken_residue;
  divided = divided_residue;
}

abbrev pub marks : Operations Mark
marks = record { nothing = off; updated = updated_mark; judged = judged_mark }
