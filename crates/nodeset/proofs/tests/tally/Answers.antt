use Rattle.std.proofs.Common.{◌+◌, sym, subst, ap, ◌∙◌, arith}
use Rattle.nodeset.specs.Sets.{has, count_below, IsLeastFrom}
use Rattle.nodeset.proofs.Members.{member_below}
use Rattle.nodeset.proofs.Walked.{count_skip, count_next}
use Rattle.nodeset.proofs.tests.tally.Goals as goal

pub loop-a-preserved : goal.loop-a-preserved
loop-a-preserved c =
    let (_, _, same, low, few, value) = c.loop-a.invariant in
    let gives = c.in-Some.ensures.steps in
    let next = subst (λ s. IsLeastFrom (has s) c.loop-a._a-iterator.from c.in-Some._a) same gives.least in
    let below = member_below c.args.set.now c.in-Some._a next.passes in (
      tt,
      tt,
      gives.set ∙ same,
      omega (arith, gives.from, below),
      omega (arith, gives.from, few, next.from),
      ap (λ n. n + 1) value ∙ sym (count_next (has c.args.set.now) c.loop-a._a-iterator.from c.in-Some._a next) ∙ ap (count_below (has c.args.set.now)) (sym gives.from),
    )

pub returns : goal.returns
returns c =
    let (_, _, same, low, few, value) = c.loop-a.invariant in
    let gives = c.in-None.ensures.steps in
    value ∙ sym (count_skip (has c.args.set.now) c.loop-a._a-iterator.from 512 low (λ k on _. ap (λ s. has s k) (sym same) ∙ gives.least k on))
