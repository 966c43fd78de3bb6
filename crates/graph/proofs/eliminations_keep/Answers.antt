use Rattle.graph.proofs.Eliminations.{eliminates}
use Rattle.graph.proofs.eliminations_keep.Goals as goal

pub returns : goal.returns
returns c = eliminates
