use Rattle.std.specs.List.{flat_map}
use Rattle.plan.specs.Lookups.{label_in}
use Rattle.plan.specs.Views.{arrays_of}
use Rattle.listing.specs.Tables.{Puts}
use Rattle.listing.specs.Texts.{spaced}
use Rattle.listing.proofs.listings.put_line.Given as goal

abbrev pub invariant-loop-row : goal.invariant-loop-row
invariant-loop-row l = Puts (flat_map (λ c. spaced (label_in (arrays_of c.plan.now) c.position)) l.yielded) l.initial.page l.page
