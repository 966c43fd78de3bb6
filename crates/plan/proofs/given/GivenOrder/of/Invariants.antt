use Rattle.std.proofs.Common.{◌≡◌, ℕ, length, take}
use Rattle.graph.specs.Picking.{place_from}
use Rattle.plan.specs.Given.{place_in}
use Rattle.plan.proofs.given.GivenOrder.of.Given as goal

abbrev pub invariant-loop-i : goal.invariant-loop-i
invariant-loop-i l = (length l.places ≡ 512) × ((v : ℕ) → place_in l.places v ≡ place_from 1 (take l.i l.label-items) v)
