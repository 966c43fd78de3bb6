-- The number of the refusal.
use Rattle.std.specs.Prelude.{ℕ}
use Rattle.listing.specs.declared.refusals.TooShort.{TooShort}

abbrev pub number_of : TooShort → ℕ
number_of e = 21
