use Rattle.std.proofs.Common.{vec_items}
use Rattle.nodeset.proofs.Rowed.{empty_rows}
use Rattle.nodeset.proofs.rows.Rows.reserve.Goals as goal

pub returns : goal.returns
returns c = empty_rows (vec_items c.in_ok-sets.sets) 512 c.empty.result (c.in_ok-sets.ensures.items_if_clones_equal (λ y e. e)) c.empty.ensures
