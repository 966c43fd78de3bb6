use Rattle.std.proofs.Common.{◌≡◌, ◌+◌, ◌-◌, [], ◌∷◌, ◌++◌, length, get_or, set, sym, ap, ◌∙◌, subst, arith, length-append}
use Rattle.std.specs.Iterator.Adapters.{zip_first}
use Rattle.std.specs.Slice.Iter.{iter_rest}
use Rattle.std.proofs.lemmas.List.{get_or_read}
use Rattle.arith.specs.Operations.{operations_of}
use Rattle.plan.specs.Lookups.{size_in, start_in}
use Rattle.plan.specs.Positions.{Position}
use Rattle.plan.specs.Views.{arrays_of}
use Rattle.plan.proofs.Kept.{position}
use Rattle.plan.proofs.Spans.{row_at, row_position}
use Rattle.square.specs.Calls.{by_position}
use Rattle.square.specs.Plans.{site_of}
use Rattle.numeric.specs.Labels.{HasLabel}
use Rattle.numeric.proofs.Forwards.{Forwarded, forward_more, forward_all}
use Rattle.numeric.proofs.Orders.{has_label, slot_read, slot_set, slot_kept}
use Rattle.numeric.proofs.Rows.{row_turn, rows_end}
use Rattle.numeric.proofs.solution.forward_column.Goals as goal

pub slot-at-requires : goal.slot-at-requires
slot-at-requires g c =
    let e = g.N.Arithmetic.nothing in
    let a = arrays_of c.args.column.plan.now in
    let k = c.args.column.position in
    let w = c.args.worked.now in
    let order = c.order-order.result.now in
    let place = start_in a k + 1 + length c.loop-row.yielded in
    let here = row_turn e a k (position c.args.column) w c.rows.result.now c.places-places.result.start c.places-places.result.end
    c.loop-row.yielded c.into_iter-row-iterator.result c.loop-row.row-iterator c.next.new.self c.next.result
    c.rows.ensures.value c.places-places.ensures.start c.places-places.ensures.end
    (ap (λ z. iter_rest (zip_first z)) c.into_iter-row-iterator.ensures.into_iter_gives ∙ ap iter_rest c.zip-row-items.ensures.first ∙ c.iter.ensures.rest) (cc)
    c.loop-row.yielded_by (c.in-Some.row, c.in-Some.number) c.in-Some.is c.next.ensures.steps in
    subst (HasLabel order) (sym here.row_is)
    (has_label a (row_at a place) (row_position a k (position c.args.column) place here.low here.high) order c.order-order.ensures)

pub loop-row-preserved : goal.loop-row-preserved
loop-row-preserved g c =
    let o = operations_of g.N.Arithmetic in
    let e = g.N.Arithmetic.nothing in
    let a = arrays_of c.args.column.plan.now in
    let k = c.args.column.position in
    let column = position c.args.column in
    let w = c.args.worked.now in
    let y = c.loop-row.levels in
    let from = by_position e (site_of a) c.args.levels.now in
    let now = by_position e (site_of a) y in
    let order = c.order-order.result.now in
    let start = c.places-places.result.start in
    let place = start_in a k + 1 + length c.loop-row.yielded in
    let at = c.slot-at.result in
    let v = c.update.result in
    let next = by_position e (site_of a) (set y at v) in
    let here = row_turn e a k (position c.args.column) w c.rows.result.now c.places-places.result.start c.places-places.result.end
    c.loop-row.yielded c.into_iter-row-iterator.result c.loop-row.row-iterator c.next.new.self c.next.result
    c.rows.ensures.value c.places-places.ensures.start c.places-places.ensures.end
    (ap (λ z. iter_rest (zip_first z)) c.into_iter-row-iterator.ensures.into_iter_gives ∙ ap iter_rest c.zip-row-items.ensures.first ∙ c.iter.ensures.rest) (cc)
    c.loop-row.yielded_by (c.in-Some.row, c.in-Some.number) c.in-Some.is c.next.ensures.steps in
    let size : length y ≡ size_in a = c.loop-row.auto.levels ∙ c.requires.size in
    let p : Position a (row_at a place) = row_position a k column place here.low here.high in
    let at_is : at ≡ get_or order (row_at a place - 1) 0 - 1 = c.slot-at.ensures.value ∙ ap (λ x. get_or order (x - 1) 0 - 1) here.row_is in
    let x = slot_read a (row_at a place) p e y size order at c.order-order.ensures at_is c.index-levels-at.result c.index-levels-at.is in
    let u = here.number_is in
    let d : c.index-worked-places.result ≡ get_or w (start_in a k) e =
    get_or_read w start c.index-worked-places.result (omega (arith, c.places-places.ensures.some, c.places-places.ensures.inside, c.requires.long)) c.index-worked-places.is e
    ∙ ap (λ q. get_or w q e) c.places-places.ensures.start in
    let b = slot_read a k column e c.args.levels.now c.requires.size order c.slot.result c.order-order.ensures c.slot.ensures.value c.index-levels-slot.result c.index-levels-slot.is in
    let is : v ≡ o.updated (now (row_at a place)) (get_or w place e) (get_or w (start_in a k) e) (from k) = cc (x, u, d, b, c.update.ensures) in
    let more : place + 1 ≡ start_in a k + 1 + length (c.loop-row.yielded ++ (c.in-Some.row, c.in-Some.number) ∷ []) =
    omega (arith, length-append c.loop-row.yielded ((c.in-Some.row, c.in-Some.number) ∷ [])) in
    subst (λ q. Forwarded o a w k q from next) more
    (forward_more o a w k column from place now next v here.low here.high c.loop-row.invariant is
    (slot_set a (row_at a place) p e y size order at c.order-order.ensures at_is v) (slot_kept a (row_at a place) p e y size order at c.order-order.ensures at_is v))

pub returns : goal.returns
returns g c =
    let o = operations_of g.N.Arithmetic in
    let e = g.N.Arithmetic.nothing in
    let a = arrays_of c.args.column.plan.now in
    let k = c.args.column.position in
    let w = c.args.worked.now in
    let from = by_position e (site_of a) c.args.levels.now in
    let now = by_position e (site_of a) c.loop-row.levels in
    let end = rows_end e a k (position c.args.column) w c.rows.result.now c.places-places.result.start c.places-places.result.end
    c.loop-row.yielded c.into_iter-row-iterator.result c.loop-row.row-iterator c.next.new.self c.next.result
    c.rows.ensures.value c.places-places.ensures.start c.places-places.ensures.end
    (ap (λ z. iter_rest (zip_first z)) c.into_iter-row-iterator.ensures.into_iter_gives ∙ ap iter_rest c.zip-row-items.ensures.first ∙ c.iter.ensures.rest) (cc)
    c.loop-row.yielded_by c.requires.long c.in-None.is c.next.ensures.steps in
    forward_all o a w k (position c.args.column) from g.met.N.Arithmetic.row now (subst (λ q. Forwarded o a w k q from now) end c.loop-row.invariant)
