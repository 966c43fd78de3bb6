-- The numbers of the refusals.
use Rattle.std.specs.Prelude.{ℕ}
use Rattle.plan.specs.declared.refusals.Refusal.{Refusal}
use Rattle.plan.specs.declared.refusals.Refusal.TheVariants.{TooManyPlaces, NoOrder, OutOfRange}

abbrev pub number_of : Refusal → ℕ
number_of TooManyPlaces = 13
number_of NoOrder = 14
number_of OutOfRange = 17
