use Rattle.arith.specs.Operations.{solvers_of}
use Rattle.square.proofs.Serving.{serves_solving}
use Rattle.square.proofs.stores_serve_solving.Goals as goal

pub returns : goal.returns
returns g c =
    serves_solving (solvers_of g.N.Arithmetic g.N.Solving.taken g.N.Solving.divided)
    (record { row = g.met.N.Arithmetic.row; column = g.met.N.Arithmetic.column })
