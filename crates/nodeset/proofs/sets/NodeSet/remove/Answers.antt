use Rattle.std.proofs.Common.{rules, ◌≡◌, length, arith}
use Rattle.nodeset.proofs.Members.{removed}
use Rattle.nodeset.proofs.sets.NodeSet.remove.Goals as goal

pub returns-then-i-lt512 : goal.returns-then-i-lt512
returns-then-i-lt512 c =
    let words = c.args.self.now.words in
    let eight : length words ≡ 8 = search rules in
    removed words c.args.i (omega (arith, c.if-i-lt512.true, eight)) c.bit_of.result c.bit_of.ensures
