use Rattle.std.proofs.Common.{rules, ◌≡◌, ◌∙◌, ◌^◌, length, sum_by, arith}
use Rattle.std.proofs.lemmas.Iterator.{YieldsList-from_slice}
use Rattle.std.proofs.lemmas.Iterator.Adapters.{fits_from_length, at_most_from_yields_List}
use Rattle.nodeset.specs.Sets.{bit_at, count_below}
use Rattle.nodeset.proofs.Counted.{members_counted}
use Rattle.nodeset.proofs.sets.NodeSet.len.Goals as goal

pub sum-requires-clause-fits : goal.sum-requires-clause-fits
sum-requires-clause-fits c =
    let eight : length c.args.self.now.words ≡ 8 = search rules in
    fits_from_length _ _ 8 (2 ^ 16) (at_most_from_yields_List (YieldsList-from_slice c.args.self.now.words cc) (omega (arith, eight)))
    c.map.ensures.closure (omega arith) (λ x r q k. search rules)

pub returns : goal.returns
returns c =
    let eight : length c.args.self.now.words ≡ 8 = search rules in
    let total : c.sum.result ≡ sum_by (λ word. count_below (bit_at word) 64) c.args.self.now.words = search rules in
    total ∙ members_counted c.args.self.now.words eight
