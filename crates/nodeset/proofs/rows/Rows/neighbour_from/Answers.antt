use Rattle.std.proofs.Common.{rules, vec_items, slice_index_or}
use Rattle.nodeset.specs.Rows.{no_nodes}
use Rattle.nodeset.proofs.Firsts.{least_first}
use Rattle.nodeset.proofs.rows.Rows.neighbour_from.Goals as goal

pub returns-in_err-get-clause-value : goal.returns-in_err-get-clause-value
returns-in_err-get-clause-value c = least_first (slice_index_or (vec_items c.args.self.now.sets) c.args.a no_nodes) c.args.b _ (search rules)

pub returns-clause-value : goal.returns-clause-value
returns-clause-value c = least_first (slice_index_or (vec_items c.args.self.now.sets) c.args.a no_nodes) c.args.b _ (search rules)
