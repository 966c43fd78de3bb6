use Rattle.arith.proofs.Fields.{residue_field}
use Rattle.arith.specs.Primality.{prime}
use Rattle.arith.specs.QuotientsLemmas.{one_quotient}
use Rattle.arith.proofs.theorems.residues_form_a_field.Goals as goal

pub returns : goal.returns
returns c = record { prime = prime; quotients = one_quotient; field = residue_field }
