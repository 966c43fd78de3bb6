use Rattle.std.proofs.Common.{rules, tests, ◌≡◌, min, eqb, map, ap, ◌∙◌}
use Rattle.std.specs.List.{fold, position}
use Rattle.std.proofs.lemmas.Iterator.{YieldsList-from_slice, YieldsList-from_map}
use Rattle.std.proofs.lemmas.Iterator.Consumers.{fold_from_yields_List}
use Rattle.std.proofs.lemmas.Iterator.Search.{position_from_yields_List}
use Rattle.plan.specs.Scan.{price_in}
use Rattle.plan.proofs.Scans.{first_least}
use Rattle.plan.proofs.rules.next.Goals as goal

pub returns : goal.returns
returns g c =
    let p = price_in (g.R.Rule.priced c.args.rule.now) c.args.nodes.now in
    let left = c.args.left.now in
    let least : c.fold-least.result ≡ fold min c.price_of-first.result (map p left) =
    fold_from_yields_List _ min c.price_of-first.result c.fold-least.result c.fold-least.ensures.ran (YieldsList-from_map _ p (YieldsList-from_slice left (cc)) c.map-prices.ensures.closure (λ x r q k. search rules)) (λ a x b q k. search rules) in
    let at : c.position.result ≡ position (λ v. eqb (p v) c.fold-least.result) left =
    position_from_yields_List (λ v. eqb (p v) c.fold-least.result) _ _ c.position.result c.position.ensures.ran (YieldsList-from_slice left (cc)) (λ x b q k. search (rules, tests)) in
    let first = c.in_ok-first.ensures.item.3 in
    first_least p left c.price_of-first.result c.fold-least.result c.position.result first.0 (c.price_of-first.ensures ∙ ap p (first.1 0)) least at
