-- The numbers of the refusals, and which of several conditions refuses.
use Rattle.std.specs.Prelude.{ℕ, Bool, cond, List, [], ◌∷◌, Some, None, Option}
use Rattle.square.specs.declared.refusals.Refusal.{Refusal}
use Rattle.square.specs.declared.refusals.Refusal.TheVariants.{NotCleared, WrongLength, OutOfRange, NotLinked, NoPivot, NotWorked}

abbrev pub number_of : Refusal → ℕ
number_of NotCleared = 15
number_of WrongLength = 16
number_of OutOfRange = 17
number_of NotLinked = 18
number_of (NoPivot label cause) = 19
number_of NotWorked = 20

-- the first of the refusals whose condition holds
abbrev pub first_refusal : List (Bool × Refusal) → Option Refusal
first_refusal [] = None
first_refusal (c ∷ cs) = cond c.0 (Some c.1) (first_refusal cs)
