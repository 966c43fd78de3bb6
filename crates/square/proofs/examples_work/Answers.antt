use Rattle.std.proofs.Common.{rules}
use lib.Ieee.{eq, lt, neg, sub, mul, div, of_bits, of_int}
use Rattle.std.specs.Float.{float_is_finite}
use Rattle.arith.specs.Residues.{first_quotient}
use Rattle.square.proofs.examples_work.Goals as goal

pub returns : goal.returns
unfolding eq lt neg sub mul div of_bits of_int float_is_finite first_quotient
returns c = search rules
