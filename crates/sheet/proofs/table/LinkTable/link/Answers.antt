use Rattle.std.proofs.Common.{arith}
use Rattle.std.proofs.lemmas.Grind.{common_steps}
use Rattle.sheet.proofs.table.LinkTable.link.Goals as goal

pub returns : goal.returns
returns c = λ links shows i j h. grind (arith, common_steps, shows i j h)
