use Rattle.std.proofs.Common.{◌∙◌}
use Rattle.nodeset.proofs.Bits.{count_same}
use Rattle.nodeset.proofs.rows.Rows.degree.Goals as goal

pub returns : goal.returns
returns c = c.len.ensures ∙ count_same _ _ 512 (λ b _. c.row.ensures b)
