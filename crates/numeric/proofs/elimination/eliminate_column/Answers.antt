use Rattle.std.proofs.Common.{◌≡◌, ℕ, ◌+◌, ◌-◌, ◌<◌, ◌≤◌, length, drop, sym, ap, ◌∙◌, subst, inl, inr, arith}
use borrow.Rule.Slice.PartMut.{put_mid}
use Rattle.std.specs.Iterator.Adapters.{zip_first, zip_second}
use Rattle.std.specs.declared.ops.Range.{Range}
use Rattle.std.proofs.lemmas.List.{length-take, length-drop}
use Rattle.arith.specs.Operations.{operations_of}
use Rattle.plan.specs.Lookups.{start_in, rows_in}
use Rattle.plan.specs.Views.{arrays_of}
use Rattle.plan.specs.Walks.{columns_at, later_left}
use Rattle.plan.proofs.Kept.{position}
use Rattle.plan.proofs.Spans.{rows_long}
use Rattle.plan.proofs.Walks.{later_more, later_end}
use Rattle.numeric.proofs.Parts.{updated_whole}
use Rattle.numeric.proofs.Ready.{aim, column_past, sources_rise, targets_rise, contained, updated_there}
use Rattle.numeric.proofs.Sweeps.{Swept, sweep_none, sweep_more, swept_step}
use Rattle.numeric.proofs.elimination.eliminate_column.Goals as goal

pub loop-target-init : goal.loop-target-init
loop-target-init g c =
    let o = operations_of g.N.Arithmetic in
    let p = c.args.column.plan.now in
    let a = arrays_of p in
    let k = c.args.column.position in
    let w = c.args.worked.now in
    let into = c.into_iter-target-iterator.ensures.into_iter_gives in
    let second = ap zip_second into ∙ c.zip-target-items.ensures.second in
    let start_is : (zip_second c.into_iter-target-iterator.result).start ≡ start_in a k + 1 = ap (λ (r : Range ℕ). r.start) second ∙ ap (λ x. x + 1) c.places-start.ensures.start in
    let none : 0 ≡ (zip_second c.into_iter-target-iterator.result).start - (start_in a k + 1) = omega arith in (
      ap (λ (r : Range ℕ). r.end) second ∙ c.places-start.ensures.end,
      omega arith,
      omega (arith, c.places-start.ensures.start, c.places-start.ensures.end, c.places-start.ensures.some),
      ap later_left (ap zip_first into ∙ c.zip-target-items.ensures.first) ∙ c.later.ensures ∙ ap (λ x. columns_at p (drop x (rows_in a k))) none,
      subst (λ q. Swept o a k q w w) (sym start_is) (sweep_none o a k (position c.args.column) w),
    )

pub overflow_sub-targets : goal.overflow_sub-targets
overflow_sub-targets g c =
    let p = c.args.column.plan.now in
    let a = arrays_of p in
    let k = c.args.column.position in
    let source = c.in-Some.source in
    let steps = c.in-Some.ensures.steps in
    let source_is = steps.1.1.1 in
    let low : start_in a k < source = omega (arith, source_is, c.loop-target.invariant.1) in
    let high : source < start_in a (k + 1) = omega (arith, source_is, steps.1.1.0, c.loop-target.invariant.0) in
    let left = ap (λ x. columns_at p (drop (x - (start_in a k + 1)) (rows_in a k))) source_is ∙ sym c.loop-target.invariant.3 ∙ steps.0 in
    let t = aim c.args.column c.in-Some.target source c.places-start.result.start c.places-start.result.end c.places-targets.result.start c.places-targets.result.end
    c.rows-rows.result.now _ c.rows-rows.ensures c.places-start.ensures.start c.places-start.ensures.end c.places-targets.ensures.start c.places-targets.ensures.end low high left in
    let past : c.places-start.result.end ≤ c.places-targets.result.start = column_past _ _ _ _ _ _ _ _ t in
    omega (arith, c.places-start.ensures.some)

pub overflow_sub-targets-in-loop-target : goal.overflow_sub-targets-in-loop-target
overflow_sub-targets-in-loop-target g c =
    let p = c.args.column.plan.now in
    let a = arrays_of p in
    let k = c.args.column.position in
    let source = c.in-Some.source in
    let steps = c.in-Some.ensures.steps in
    let source_is = steps.1.1.1 in
    let low : start_in a k < source = omega (arith, source_is, c.loop-target.invariant.1) in
    let high : source < start_in a (k + 1) = omega (arith, source_is, steps.1.1.0, c.loop-target.invariant.0) in
    let left = ap (λ x. columns_at p (drop (x - (start_in a k + 1)) (rows_in a k))) source_is ∙ sym c.loop-target.invariant.3 ∙ steps.0 in
    let t = aim c.args.column c.in-Some.target source c.places-start.result.start c.places-start.result.end c.places-targets.result.start c.places-targets.result.end
    c.rows-rows.result.now _ c.rows-rows.ensures c.places-start.ensures.start c.places-start.ensures.end c.places-targets.ensures.start c.places-targets.ensures.end low high left in
    let past : c.places-start.result.end ≤ c.places-targets.result.start = column_past _ _ _ _ _ _ _ _ t in
    omega (arith, c.places-start.ensures.some, c.places-targets.ensures.some)

pub update_column-requires-clause-ordered : goal.update_column-requires-clause-ordered
update_column-requires-clause-ordered g c =
    let p = c.args.column.plan.now in
    let a = arrays_of p in
    let k = c.args.column.position in
    let source = c.in-Some.source in
    let steps = c.in-Some.ensures.steps in
    let source_is = steps.1.1.1 in
    let low : start_in a k < source = omega (arith, source_is, c.loop-target.invariant.1) in
    let high : source < start_in a (k + 1) = omega (arith, source_is, steps.1.1.0, c.loop-target.invariant.0) in
    let left = ap (λ x. columns_at p (drop (x - (start_in a k + 1)) (rows_in a k))) source_is ∙ sym c.loop-target.invariant.3 ∙ steps.0 in
    let t = aim c.args.column c.in-Some.target source c.places-start.result.start c.places-start.result.end c.places-targets.result.start c.places-targets.result.end
    c.rows-rows.result.now _ c.rows-rows.ensures c.places-start.ensures.start c.places-start.ensures.end c.places-targets.ensures.start c.places-targets.ensures.end low high left in
    let past : c.places-start.result.end ≤ c.places-targets.result.start = column_past _ _ _ _ _ _ _ _ t in
    let start_is = c.places-start.ensures.start in
    let end_is = c.places-start.ensures.end in
    let some : c.places-targets.result.start < c.places-targets.result.end = c.places-targets.ensures.some in
    let rows_same = (later_more p c.in-Some.target _ (rows_in a k) (source - (start_in a k + 1)) (omega (arith, rows_long a k (position c.args.column))) left).0 in
    let fits : c.places-targets.result.end ≤ length c.loop-target.worked =
    omega (arith, c.places-targets.ensures.inside, ap (λ q. length (arrays_of q).rows) rows_same, c.requires, c.loop-target.auto.worked) in
    (omega arith, omega arith, omega arith, simp (length-take, length-drop) (omega arith))

pub update_column-requires-clause-rises : goal.update_column-requires-clause-rises
update_column-requires-clause-rises g c =
    let p = c.args.column.plan.now in
    let a = arrays_of p in
    let k = c.args.column.position in
    let source = c.in-Some.source in
    let steps = c.in-Some.ensures.steps in
    let source_is = steps.1.1.1 in
    let low : start_in a k < source = omega (arith, source_is, c.loop-target.invariant.1) in
    let high : source < start_in a (k + 1) = omega (arith, source_is, steps.1.1.0, c.loop-target.invariant.0) in
    let left = ap (λ x. columns_at p (drop (x - (start_in a k + 1)) (rows_in a k))) source_is ∙ sym c.loop-target.invariant.3 ∙ steps.0 in
    let t = aim c.args.column c.in-Some.target source c.places-start.result.start c.places-start.result.end c.places-targets.result.start c.places-targets.result.end
    c.rows-rows.result.now _ c.rows-rows.ensures c.places-start.ensures.start c.places-start.ensures.end c.places-targets.ensures.start c.places-targets.ensures.end low high left in
    sources_rise _ _ _ _ _ _ _ _ t

pub update_column-requires-clause-rises_later : goal.update_column-requires-clause-rises_later
update_column-requires-clause-rises_later g c =
    let p = c.args.column.plan.now in
    let a = arrays_of p in
    let k = c.args.column.position in
    let source = c.in-Some.source in
    let steps = c.in-Some.ensures.steps in
    let source_is = steps.1.1.1 in
    let low : start_in a k < source = omega (arith, source_is, c.loop-target.invariant.1) in
    let high : source < start_in a (k + 1) = omega (arith, source_is, steps.1.1.0, c.loop-target.invariant.0) in
    let left = ap (λ x. columns_at p (drop (x - (start_in a k + 1)) (rows_in a k))) source_is ∙ sym c.loop-target.invariant.3 ∙ steps.0 in
    let t = aim c.args.column c.in-Some.target source c.places-start.result.start c.places-start.result.end c.places-targets.result.start c.places-targets.result.end
    c.rows-rows.result.now _ c.rows-rows.ensures c.places-start.ensures.start c.places-start.ensures.end c.places-targets.ensures.start c.places-targets.ensures.end low high left in
    targets_rise _ _ _ _ _ _ _ _ t

pub update_column-requires-clause-contained : goal.update_column-requires-clause-contained
update_column-requires-clause-contained g c =
    let p = c.args.column.plan.now in
    let a = arrays_of p in
    let k = c.args.column.position in
    let source = c.in-Some.source in
    let steps = c.in-Some.ensures.steps in
    let source_is = steps.1.1.1 in
    let low : start_in a k < source = omega (arith, source_is, c.loop-target.invariant.1) in
    let high : source < start_in a (k + 1) = omega (arith, source_is, steps.1.1.0, c.loop-target.invariant.0) in
    let left = ap (λ x. columns_at p (drop (x - (start_in a k + 1)) (rows_in a k))) source_is ∙ sym c.loop-target.invariant.3 ∙ steps.0 in
    let t = aim c.args.column c.in-Some.target source c.places-start.result.start c.places-start.result.end c.places-targets.result.start c.places-targets.result.end
    c.rows-rows.result.now _ c.rows-rows.ensures c.places-start.ensures.start c.places-start.ensures.end c.places-targets.ensures.start c.places-targets.ensures.end low high left in
    contained _ _ _ _ _ _ _ _ t

pub loop-target-preserved : goal.loop-target-preserved
loop-target-preserved g c =
    let o = operations_of g.N.Arithmetic in
    let p = c.args.column.plan.now in
    let a = arrays_of p in
    let k = c.args.column.position in
    let source = c.in-Some.source in
    let steps = c.in-Some.ensures.steps in
    let source_is = steps.1.1.1 in
    let low : start_in a k < source = omega (arith, source_is, c.loop-target.invariant.1) in
    let high : source < start_in a (k + 1) = omega (arith, source_is, steps.1.1.0, c.loop-target.invariant.0) in
    let left = ap (λ x. columns_at p (drop (x - (start_in a k + 1)) (rows_in a k))) source_is ∙ sym c.loop-target.invariant.3 ∙ steps.0 in
    let t = aim c.args.column c.in-Some.target source c.places-start.result.start c.places-start.result.end c.places-targets.result.start c.places-targets.result.end
    c.rows-rows.result.now _ c.rows-rows.ensures c.places-start.ensures.start c.places-start.ensures.end c.places-targets.ensures.start c.places-targets.ensures.end low high left in
    let past : c.places-start.result.end ≤ c.places-targets.result.start = column_past _ _ _ _ _ _ _ _ t in
    let start = c.places-start.result.start in
    let w = c.loop-target.worked in
    let part = c.update_column.new.worked in
    let after = put_mid start (length w - start) w part in
    let next = zip_second c.next.new.self in
    let next_is : next.start ≡ source + 1 = steps.1.1.2 ∙ ap (λ x. x + 1) (sym source_is) in
    let i = source - (start_in a k + 1) in
    let others = (later_more p c.in-Some.target _ (rows_in a k) i (omega (arith, rows_long a k (position c.args.column))) left).2 in
    let count : i + 1 ≡ next.start - (start_in a k + 1) = omega arith in
    let fits : start ≤ length w = omega (arith, c.places-start.ensures.some, c.places-start.ensures.inside, c.requires, c.loop-target.auto.worked) in
    let kept : length part ≡ length w - start = c.update_column.auto.worked ∙ simp (length-take, length-drop) (omega arith) in
    let whole = updated_whole o w part start fits kept c.rows-rows.result.now source c.places-start.result.end c.places-targets.result.start c.places-targets.result.end
    (omega (arith, c.places-start.ensures.start)) (omega (arith, c.places-start.ensures.some)) c.update_column.ensures in (
      steps.1.0 ∙ c.loop-target.invariant.0,
      omega arith,
      omega arith,
      others ∙ ap (λ x. columns_at p (drop x (rows_in a k))) count,
      subst (λ q. Swept o a k q c.args.worked.now after) (sym next_is)
          (sweep_more o a k (position c.args.column) source c.args.worked.now w after low high
          (subst (λ q. Swept o a k q c.args.worked.now w) (sym source_is) c.loop-target.invariant.4)
          (updated_there _ _ _ _ _ _ _ _ t o w after whole)),
    )

pub returns : goal.returns
returns g c =
    let o = operations_of g.N.Arithmetic in
    let p = c.args.column.plan.now in
    let a = arrays_of p in
    let k = c.args.column.position in
    let column = position c.args.column in
    let source = (zip_second c.loop-target.target-iterator).start in
    let over : start_in a (k + 1) ≤ source = elim c.in-None.ensures.steps [
      | inl f ↦
          (let none = later_end p (rows_in a k) (source - (start_in a k + 1)) (sym c.loop-target.invariant.3 ∙ f.1.0) in
          omega (arith, none, rows_long a k column, c.loop-target.invariant.1))
      | inr f ↦ omega (arith, f.1.1.0, c.loop-target.invariant.0)
    ] in
    let end : source ≡ start_in a (k + 1) = omega (arith, c.loop-target.invariant.2) in
    λ i j. swept_step o a k column
    g.met.N.Arithmetic.row g.met.N.Arithmetic.column c.args.worked.now c.loop-target.worked
    (subst (λ q. Swept o a k q c.args.worked.now c.loop-target.worked) end c.loop-target.invariant.4) i j
