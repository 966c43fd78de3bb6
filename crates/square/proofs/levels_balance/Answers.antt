use Rattle.arith.specs.Operations.{solvers_of}
use Rattle.square.proofs.Balancing.{balances}
use Rattle.square.proofs.levels_balance.Goals as goal

pub returns : goal.returns
returns g c = balances (solvers_of g.N.Arithmetic g.N.Solving.taken g.N.Solving.divided)
