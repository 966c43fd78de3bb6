use Rattle.square.proofs.Least.{least_store}
use Rattle.square.proofs.stores_are_least.Goals as goal

pub returns : goal.returns
returns c = least_store
