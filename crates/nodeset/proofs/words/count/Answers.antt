use Rattle.nodeset.proofs.Bits.{bits_counted}
use Rattle.nodeset.proofs.words.count.Goals as goal

pub returns-clause-value : goal.returns-clause-value
returns-clause-value c = bits_counted 64 c.args.word c.ranges.word.fits
