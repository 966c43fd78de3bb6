use Rattle.std.proofs.Common.{◌≡◌, ℕ, suc, ◌+◌, ◌-◌, ◌<◌, [], ◌∷◌, ◌++◌, length, Some, None, Err, sym, refl, ap, ◌∙◌, subst, ap₂, arith, rules, length-append}
use Rattle.std.specs.List.{range_with_len}
use Rattle.arith.specs.Operations.{operations_of}
use Rattle.plan.specs.declared.plans.Plan.{Plan}
use Rattle.plan.specs.Lookups.{size_in, label_in, start_in}
use Rattle.plan.specs.Views.{arrays_of}
use Rattle.plan.specs.Walks.{columns_at, columns_left}
use Rattle.plan.proofs.Kept.{keeps, position}
use Rattle.plan.proofs.Walks.{columns_more, columns_end}
use Rattle.square.specs.declared.refusals.Refusal.TheVariants.{NoPivot}
use Rattle.square.specs.Elimination.{reduced, eliminated}
use Rattle.square.specs.Plans.{matrix_of}
use Rattle.numeric.proofs.Layouts.{pivot_read}
use Rattle.numeric.proofs.Runs.{run_more, run_stuck}
use Rattle.numeric.proofs.Tables.{eliminates}
use Rattle.numeric.proofs.elimination.eliminate.Goals as goal

pub offset_bounds-worked-places : goal.offset_bounds-worked-places
offset_bounds-worked-places g c =
    let inside : c.places.result.start < length c.args.worked.now =
    (let step = columns_more c.args.plan.now c.in-Some.column (columns_left c.next.new.self) _ _ (sym c.loop-column.invariant.0 ∙ c.in-Some.ensures.steps) in
    omega (arith, c.places.ensures.some, c.places.ensures.inside, ap (λ q. length (arrays_of q).rows) step.1, c.if-worked-places.false, c.places-places.ensures)) in
    search rules

pub bounds-worked-places : goal.bounds-worked-places
bounds-worked-places g c =
    let step = columns_more c.args.plan.now c.in-Some.column _ _ _ (sym c.loop-column.invariant.0 ∙ c.in-Some.ensures.steps) in
    omega (arith, c.places.ensures.some, c.places.ensures.inside, ap (λ q. length (arrays_of q).rows) step.1, c.loop-column.invariant.2)

pub returns-then-cause-ne0 : goal.returns-then-cause-ne0
returns-then-cause-ne0 g c =
    let o = operations_of g.N.Arithmetic in
    let e = g.N.Arithmetic.nothing in
    let p = c.args.plan.now in
    let a = arrays_of p in
    let n = size_in a in
    let k = length c.loop-column.yielded in
    let column = c.in-Some.column in
    let step = columns_more p column (columns_left c.next.new.self) (k + 1) (n - k) (sym c.loop-column.invariant.0 ∙ c.in-Some.ensures.steps) in
    let w = c.loop-column.worked in
    let there : column.position ≡ suc k = omega (arith, step.2) in
    let m = matrix_of e a w in
    let start : c.places.result.start ≡ start_in (arrays_of column.plan.now) column.position = c.places.ensures.start in
    let inside : c.places.result.start < length w =
    omega (arith, c.places.ensures.some, c.places.ensures.inside, ap (λ q. length (arrays_of q).rows) step.1, c.loop-column.invariant.2) in
    let here : c.index-worked-places.result ≡ m (suc k) (suc k) =
    pivot_read e (arrays_of column.plan.now) column.position w c.places.result.start c.index-worked-places.result (position column) start inside c.index-worked-places.is
    ∙ ap₂ (λ q j. matrix_of e (arrays_of q) w j j) step.1 there in
    let cause : c.verdict-cause.result ≡ o.judged (m (suc k) (suc k)) = c.verdict-cause.ensures ∙ ap o.judged here in
    let stuck = run_stuck o (matrix_of e a c.args.entered.now) k m c.loop-column.invariant.3 n (omega (arith, step.0)) (λ none. c.if-cause-ne0.true (cause ∙ none)) in
    let label : c.label.result ≡ label_in a (suc k) = c.label.ensures.value ∙ ap₂ (λ q j. label_in (arrays_of q) j) step.1 there in
    eliminates o a c.args.entered.now c.args.worked.now _ w (Some (suc k, o.judged (m (suc k) (suc k)))) (keeps p)
    (omega (arith, c.if-entered-places.false, c.places-places.ensures)) (omega (arith, c.if-worked-places.false, c.places-places.ensures)) c.loop-column.invariant.2 stuck
    (ap₂ (λ x y. Err (NoPivot x y)) label cause)

pub eliminate_column-requires : goal.eliminate_column-requires
eliminate_column-requires g c =
    let step = columns_more c.args.plan.now c.in-Some.column _ _ _ (sym c.loop-column.invariant.0 ∙ c.in-Some.ensures.steps) in
    c.loop-column.invariant.2 ∙ sym (ap (λ q. length (arrays_of q).rows) step.1)

pub loop-column-preserved : goal.loop-column-preserved
loop-column-preserved g c =
    let o = operations_of g.N.Arithmetic in
    let e = g.N.Arithmetic.nothing in
    let p = c.args.plan.now in
    let a = arrays_of p in
    let n = size_in a in
    let k = length c.loop-column.yielded in
    let column = c.in-Some.column in
    let step = columns_more p column (columns_left c.next.new.self) (k + 1) (n - k) (sym c.loop-column.invariant.0 ∙ c.in-Some.ensures.steps) in
    let w = c.loop-column.worked in
    let there : column.position ≡ suc k = omega (arith, step.2) in
    let m = matrix_of e a w in
    let start : c.places.result.start ≡ start_in (arrays_of column.plan.now) column.position = c.places.ensures.start in
    let inside : c.places.result.start < length w =
    omega (arith, c.places.ensures.some, c.places.ensures.inside, ap (λ q. length (arrays_of q).rows) step.1, c.loop-column.invariant.2) in
    let here : c.index-worked-places.result ≡ m (suc k) (suc k) =
    pivot_read e (arrays_of column.plan.now) column.position w c.places.result.start c.index-worked-places.result (position column) start inside c.index-worked-places.is
    ∙ ap₂ (λ q j. matrix_of e (arrays_of q) w j j) step.1 there in
    let cause : c.verdict-cause.result ≡ o.judged (m (suc k) (suc k)) = c.verdict-cause.ensures ∙ ap o.judged here in
    let z = c.eliminate_column.new.worked in
    let At : Plan → ℕ → Type 0 = λ q j. (i l : ℕ) → matrix_of e (arrays_of q) z i l ≡ reduced o j (matrix_of e (arrays_of q) w) i l in
    let done : At p (suc k) = subst (λ q. At q (suc k)) step.1 (subst (At column.plan.now) there c.eliminate_column.ensures) in
    let grown : suc k ≡ length (c.loop-column.yielded ++ column ∷ []) = omega (arith, length-append c.loop-column.yielded (column ∷ [])) in
    let first : k + 1 + 1 ≡ length (c.loop-column.yielded ++ column ∷ []) + 1 = omega arith in
    let left : n - k - 1 ≡ n - length (c.loop-column.yielded ++ column ∷ []) = omega arith in (
      step.3 ∙ ap₂ (λ x d. columns_at p (range_with_len x d)) first left,
      omega (arith, step.0),
      c.eliminate_column.auto.worked ∙ c.loop-column.invariant.2,
      ap (eliminated o (matrix_of e a c.args.entered.now)) (sym grown)
          ∙ run_more o (matrix_of e a c.args.entered.now) k m c.loop-column.invariant.3 (matrix_of e a z) (sym cause ∙ c.if-cause-ne0.false) done,
    )

pub returns : goal.returns
returns g c =
    let o = operations_of g.N.Arithmetic in
    let e = g.N.Arithmetic.nothing in
    let p = c.args.plan.now in
    let a = arrays_of p in
    let n = size_in a in
    let k = length c.loop-column.yielded in
    let over = columns_end p (k + 1) (n - k) (sym c.loop-column.invariant.0 ∙ c.in-None.ensures.steps.0) in
    let all : n ≡ k = omega (arith, over, c.loop-column.invariant.1) in
    eliminates o a c.args.entered.now c.args.worked.now _ c.loop-column.worked None (keeps p)
    (omega (arith, c.if-entered-places.false, c.places-places.ensures)) (omega (arith, c.if-worked-places.false, c.places-places.ensures)) c.loop-column.invariant.2
    (ap (eliminated o (matrix_of e a c.args.entered.now)) all ∙ c.loop-column.invariant.3) refl
