use Rattle.std.proofs.Common.{false, ap, ◌∙◌, get_or, arith}
use Rattle.std.proofs.lemmas.List.{get_or-replicate}
use Rattle.sheet.specs.Tables.{cell_of}
use Rattle.sheet.proofs.table.LinkTable.reserve.Goals as goal

pub returns : goal.returns
returns c = λ a b h. ap (λ l. get_or l (cell_of a b) false) (c.in_ok-cells.ensures.items_if_clones_equal (λ y e. e)) ∙ get_or-replicate 262144 (cell_of a b) false false (omega arith)
