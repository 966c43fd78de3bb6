use Rattle.std.proofs.Common.{◌≡◌, ◌*◌, ◌%◌, ◌<◌}
use Rattle.arith.proofs.residues.modular.inverse.Given as goal

abbrev pub invariant-loop-m : goal.invariant-loop-m
invariant-loop-m l = record { positive : 0 < l.m; small : l.m < 65521; product : l.s * l.d % 65521 ≡ l.m }

abbrev pub decreases-loop-m : goal.decreases-loop-m
decreases-loop-m l = l.m
