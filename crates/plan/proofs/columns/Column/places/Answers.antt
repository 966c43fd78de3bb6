use Rattle.std.proofs.Common.{◌≡◌, ◌+◌, ◌-◌, get_or, vec_items, vec_len, ap, ◌∙◌, arith}
use Rattle.std.proofs.lemmas.List.{get_or_read_under}
use Rattle.plan.specs.Lookups.{start_in}
use Rattle.plan.specs.Views.{arrays_of}
use Rattle.plan.proofs.Kept.{position}
use Rattle.plan.proofs.Spans.{column_ends}
use Rattle.plan.proofs.columns.Column.places.Goals as goal

pub returns-clause-inside : goal.returns-clause-inside
returns-clause-inside c =
    let p = c.args.self.plan.now in
    let k = c.args.self.position in
    let k_is : k ≡ k + 1 - 1 = omega arith in
    let past : c.index-2.result.now ≡ start_in (arrays_of p) (k + 1) =
    get_or_read_under (vec_items p.starts) k (vec_len p.starts) c.index-2.result.now 0 c.index-2.ensures (omega (arith, c.args.self.high, p.sizes.1, p.order.ok.0)) p.starts.ok.0
    ∙ ap (λ x. get_or (vec_items p.starts) x 0) k_is in
    omega (arith, past, column_ends (arrays_of p) k (position c.args.self))
