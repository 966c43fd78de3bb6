use Rattle.std.proofs.Common.{arith}
use Rattle.nodeset.proofs.Firsts.{lowest_some, lowest_none, bit_below}
use Rattle.nodeset.proofs.words.lowest_from.Goals as goal

pub returns-then-rest-eq0-clause-least : goal.returns-then-rest-eq0-clause-least
returns-then-rest-eq0-clause-least c = lowest_none c.args.word c.args.low c.if-rest-eq0.true

pub returns : goal.returns
returns c =
    let least = lowest_some c.args.word c.args.low c.ranges.word.fits (omega (arith, c.if-rest-eq0.false)) in
    record { least = least; within = bit_below c.args.word _ 64 least.passes c.ranges.word.fits }
