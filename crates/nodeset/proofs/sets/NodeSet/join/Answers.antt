use Rattle.std.proofs.Common.{rules, ◌≡◌, get_or, bit_or}
use Rattle.nodeset.proofs.Joined.{below_eight, joined}
use Rattle.nodeset.proofs.sets.NodeSet.join.Goals as goal

pub returns : goal.returns
returns c =
    let ws = c.from_fn-self.result in
    let us = c.args.self.now.words in
    let vs = c.args.other.now.words in
    joined us vs ws
    (below_eight (λ k. get_or ws k 0 ≡ bit_or (get_or us k 0) (get_or vs k 0)) (search rules) (search rules) (search rules) (search rules) (search rules) (search rules) (search rules) (search rules))
