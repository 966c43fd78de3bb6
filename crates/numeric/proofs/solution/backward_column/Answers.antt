use Rattle.std.proofs.Common.{◌≡◌, suc, ◌+◌, ◌-◌, eqb, [], ◌∷◌, ◌++◌, length, get_or, set, sym, ap, ◌∙◌, subst, ap₂, inl, inr, arith, length-append}
use Rattle.std.specs.Iterator.Adapters.{zip_first}
use Rattle.std.specs.Slice.Iter.{iter_rest}
use Rattle.std.proofs.lemmas.Bool.{cases_eq, cond-true, cond-false, eq-eqb, ne_eqb}
use Rattle.arith.specs.Operations.{solvers_of}
use Rattle.plan.specs.Lookups.{size_in, start_in}
use Rattle.plan.specs.Positions.{Position}
use Rattle.plan.specs.Views.{arrays_of}
use Rattle.plan.proofs.Kept.{position}
use Rattle.plan.proofs.Spans.{row_at, row_position}
use Rattle.square.specs.Calls.{by_position}
use Rattle.square.specs.Plans.{site_of, matrix_of}
use Rattle.square.specs.Solution.{taken_from}
use Rattle.numeric.specs.Labels.{HasLabel}
use Rattle.numeric.proofs.Backwards.{take_more, take_all_rows}
use Rattle.numeric.proofs.Layouts.{pivot_read}
use Rattle.numeric.proofs.Orders.{has_label, slot_read, slot_set, slot_kept}
use Rattle.numeric.proofs.Rows.{row_turn, rows_end}
use Rattle.numeric.proofs.solution.backward_column.Goals as goal

pub slot-requires : goal.slot-requires
slot-requires g c =
    let e = g.N.Arithmetic.nothing in
    let a = arrays_of c.args.column.plan.now in
    let k = c.args.column.position in
    let w = c.args.worked.now in
    let order = c.order-order.result.now in
    let place = start_in a k + 1 + length c.loop-row.yielded in
    let here = row_turn e a k (position c.args.column) w c.rows.result.now c.places-places.result.start c.places-places.result.end
    c.loop-row.yielded c.into_iter-row-iterator.result c.loop-row.row-iterator c.next.new.self c.next.result
    c.rows.ensures.value c.places-places.ensures.start c.places-places.ensures.end
    (ap (λ z. iter_rest (zip_first z)) c.into_iter-row-iterator.ensures.into_iter_gives ∙ ap iter_rest c.zip-row-items.ensures.first ∙ c.iter.ensures.rest) (cc)
    c.loop-row.yielded_by (c.in-Some.row, c.in-Some.number) c.in-Some.is c.next.ensures.steps in
    subst (HasLabel order) (sym here.row_is)
    (has_label a (row_at a place) (row_position a k (position c.args.column) place here.low here.high) order c.order-order.ensures)

pub loop-row-preserved : goal.loop-row-preserved
loop-row-preserved g c =
    let s = solvers_of g.N.Arithmetic g.N.Solving.taken g.N.Solving.divided in
    let e = g.N.Arithmetic.nothing in
    let a = arrays_of c.args.column.plan.now in
    let n = size_in a in
    let k = c.args.column.position in
    let column = position c.args.column in
    let w = c.args.worked.now in
    let m = matrix_of e a w in
    let y = by_position e (site_of a) c.args.levels.now in
    let order = c.order-order.result.now in
    let place = start_in a k + 1 + length c.loop-row.yielded in
    let b = c.loop-row.level in
    let here = row_turn e a k (position c.args.column) w c.rows.result.now c.places-places.result.start c.places-places.result.end
    c.loop-row.yielded c.into_iter-row-iterator.result c.loop-row.row-iterator c.next.new.self c.next.result
    c.rows.ensures.value c.places-places.ensures.start c.places-places.ensures.end
    (ap (λ z. iter_rest (zip_first z)) c.into_iter-row-iterator.ensures.into_iter_gives ∙ ap iter_rest c.zip-row-items.ensures.first ∙ c.iter.ensures.rest) (cc)
    c.loop-row.yielded_by (c.in-Some.row, c.in-Some.number) c.in-Some.is c.next.ensures.steps in
    let p : Position a (row_at a place) = row_position a k column place here.low here.high in
    let at_is : c.slot.result ≡ get_or order (row_at a place - 1) 0 - 1 = c.slot.ensures.value ∙ ap (λ x. get_or order (x - 1) 0 - 1) here.row_is in
    let x = slot_read a (row_at a place) p e c.args.levels.now c.requires.size order c.slot.result c.order-order.ensures at_is c.index-levels-slot.result c.index-levels-slot.is in
    let level : c.take-level.result ≡ s.taken b (get_or w place e) (y (row_at a place)) = c.take-level.ensures.is ∙ ap₂ (s.taken b) here.number_is x in
    let before : place - 1 ≡ start_in a k + length c.loop-row.yielded = omega arith in
    let more : start_in a k + length (c.loop-row.yielded ++ (c.in-Some.row, c.in-Some.number) ∷ []) ≡ place =
    omega (arith, length-append c.loop-row.yielded ((c.in-Some.row, c.in-Some.number) ∷ [])) in
    ap₂ (λ q v. taken_from s m k y v (suc (row_at a q)) (n - row_at a q)) more level
    ∙ take_more s e g.met.N.Solving.calm a w k column y place b _ here.low
    (ap (λ q. taken_from s m k y b (suc (row_at a q)) (n - row_at a q)) before ∙ c.loop-row.invariant) here.high

pub returns : goal.returns
returns g c =
    let s = solvers_of g.N.Arithmetic g.N.Solving.taken g.N.Solving.divided in
    let e = g.N.Arithmetic.nothing in
    let a = arrays_of c.args.column.plan.now in
    let n = size_in a in
    let k = c.args.column.position in
    let column = position c.args.column in
    let w = c.args.worked.now in
    let m = matrix_of e a w in
    let y = by_position e (site_of a) c.args.levels.now in
    let order = c.order-order.result.now in
    let place = start_in a k + 1 + length c.loop-row.yielded in
    let at = c.slot-at.result in
    let v = c.over.result in
    let end = rows_end e a k (position c.args.column) w c.rows.result.now c.places-places.result.start c.places-places.result.end
    c.loop-row.yielded c.into_iter-row-iterator.result c.loop-row.row-iterator c.next.new.self c.next.result
    c.rows.ensures.value c.places-places.ensures.start c.places-places.ensures.end
    (ap (λ z. iter_rest (zip_first z)) c.into_iter-row-iterator.ensures.into_iter_gives ∙ ap iter_rest c.zip-row-items.ensures.first ∙ c.iter.ensures.rest) (cc)
    c.loop-row.yielded_by c.requires.long c.in-None.is c.next.ensures.steps in
    let before : place - 1 ≡ start_in a k + length c.loop-row.yielded = omega arith in
    let all = take_all_rows s e g.met.N.Solving.calm a w k column y place c.loop-row.level _ (omega arith)
    (ap (λ q. taken_from s m k y c.loop-row.level (suc (row_at a q)) (n - row_at a q)) before ∙ c.loop-row.invariant) end in
    let d = pivot_read e a k w c.places-places.result.start c.index-worked-places.result column c.places-places.ensures.start
    (omega (arith, c.places-places.ensures.some, c.places-places.ensures.inside, c.requires.long)) c.index-worked-places.is in
    let level : v ≡ s.divided (taken_from s m k y (y k) (suc k) (n - k)) (m k k) = c.over.ensures.is ∙ ap₂ s.divided all d in
    λ i i-low i-high. elim (cases_eq i k) [
      | inl same ↦
          ap (by_position e (site_of a) (set c.args.levels.now at v)) same
          ∙ slot_set a k column e c.args.levels.now c.requires.size order at c.order-order.ensures c.slot-at.ensures.value v
          ∙ level
          ∙ sym (cond-true (eqb i k) (s.divided (taken_from s m k y (y k) (suc k) (n - k)) (m k k)) (y i) (eq-eqb i k same))
      | inr ne ↦
          slot_kept a k column e c.args.levels.now c.requires.size order at c.order-order.ensures c.slot-at.ensures.value v i
          (record { keeps = column.keeps; low = i-low; high = i-high }) ne
          ∙ sym (cond-false (eqb i k) (s.divided (taken_from s m k y (y k) (suc k) (n - k)) (m k k)) (y i) (ne_eqb i k ne))
    ]
