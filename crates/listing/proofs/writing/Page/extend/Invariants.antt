use Rattle.std.proofs.Common.{take}
use Rattle.listing.specs.Tables.{Puts}
use Rattle.listing.proofs.writing.Page.extend.Given as goal

abbrev pub invariant-loop-item : goal.invariant-loop-item
invariant-loop-item g l = Puts (take l.item-index l.items) l.initial.self l.self
