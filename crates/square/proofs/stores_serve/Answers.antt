use Rattle.arith.specs.Operations.{operations_of}
use Rattle.square.proofs.Serving.{serves}
use Rattle.square.proofs.stores_serve.Goals as goal

pub returns : goal.returns
returns g c =
    serves (operations_of g.N.Arithmetic) (record { row = g.met.N.Arithmetic.row; column = g.met.N.Arithmetic.column })
