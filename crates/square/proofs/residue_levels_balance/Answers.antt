use Rattle.arith.specs.Fields.{residue_ring}
use Rattle.arith.specs.Operations.{residues}
use Rattle.arith.proofs.Fields.{residue_field}
use Rattle.square.proofs.Balancing.{balances}
use Rattle.square.proofs.residue_levels_balance.Goals as goal

pub returns : goal.returns
returns c = balances residues residue_ring residue_field
