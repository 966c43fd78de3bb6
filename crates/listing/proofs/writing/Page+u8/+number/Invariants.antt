use Rattle.listing.proofs.writing.Page+u8.+number.Given as goal

abbrev pub decreases-number : goal.decreases-number
decreases-number l = l.number
