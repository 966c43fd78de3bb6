use Rattle.std.specs.List.{flat_map}
use Rattle.plan.specs.Views.{arrays_of}
use Rattle.listing.specs.Tables.{Puts}
use Rattle.listing.specs.Texts.{line_in}
use Rattle.listing.proofs.listings.put_listing.Given as goal

abbrev pub invariant-loop-column : goal.invariant-loop-column
invariant-loop-column l = Puts (flat_map (λ c. line_in (arrays_of c.plan.now) c.position) l.yielded) l.initial.page l.page
