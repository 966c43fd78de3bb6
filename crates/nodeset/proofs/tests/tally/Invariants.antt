use Rattle.std.proofs.Common.{◌≡◌, ◌≤◌}
use Rattle.nodeset.specs.Sets.{has, count_below}
use Rattle.nodeset.proofs.tests.tally.Given as goal

abbrev pub invariant-loop-a : goal.invariant-loop-a
invariant-loop-a l =
    (goal.iterator-loop-a).can_next l._a-iterator × (goal.iterator-loop-a).is_finite l._a-iterator
    × (l._a-iterator.set ≡ l.set) × (l._a-iterator.from ≤ 512) × (l.n ≤ l._a-iterator.from)
    × (l.n ≡ count_below (has l.set) l._a-iterator.from)
