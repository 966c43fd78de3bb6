use Rattle.std.proofs.Common.{◌≡◌, ℕ, ◌+◌, ◌*◌, ◌<◌, ◌≤◌, false}
use Rattle.nodeset.specs.Sets.{has}
use Rattle.nodeset.proofs.sets.NodeSet.first_from.Given as goal

abbrev pub invariant-loop-word : goal.invariant-loop-word
invariant-loop-word l = (l.low < 64) × (l.i ≤ l.word * 64 + l.low) × ((j : ℕ) → l.i ≤ j → j < l.word * 64 + l.low → has l.self j ≡ false)
