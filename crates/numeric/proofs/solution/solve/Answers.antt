use Rattle.std.proofs.Common.{◌≡◌, ℕ, suc, ◌+◌, ◌-◌, [], ◌∷◌, ◌++◌, length, sym, ap, ◌∙◌, subst, ap₂, arith, length-append}
use Rattle.std.specs.Iterator.Adapters.{rev_source}
use Rattle.std.specs.List.{range_with_len}
use Rattle.arith.specs.Operations.{operations_of, solvers_of}
use Rattle.plan.specs.declared.plans.Plan.{Plan}
use Rattle.plan.specs.Lookups.{size_in}
use Rattle.plan.specs.Views.{arrays_of}
use Rattle.plan.specs.Walks.{columns_at, columns_left}
use Rattle.plan.proofs.Walks.{columns_more, columns_back, columns_end}
use Rattle.square.specs.Calls.{by_position}
use Rattle.square.specs.Plans.{site_of, matrix_of}
use Rattle.square.specs.Solution.{forward, backward}
use Rattle.numeric.specs.Passes.{forward_step, backward_step, Moves}
use Rattle.numeric.proofs.Backwards.{backward_on}
use Rattle.numeric.proofs.Forwards.{forward_on}
use Rattle.numeric.proofs.Orders.{solves}
use Rattle.numeric.proofs.solution.solve.Goals as goal

pub forward_column-requires-clause-long : goal.forward_column-requires-clause-long
forward_column-requires-clause-long g c =
    let step = columns_more c.args.plan.now c.in-Some.column _ _ _ (sym c.loop-column.invariant.0 ∙ c.in-Some.ensures.steps) in
    omega (arith, c.if-worked-places.false, c.places.ensures, ap (λ q. length (arrays_of q).rows) step.1)

pub forward_column-requires-clause-size : goal.forward_column-requires-clause-size
forward_column-requires-clause-size g c =
    let step = columns_more c.args.plan.now c.in-Some.column _ _ _ (sym c.loop-column.invariant.0 ∙ c.in-Some.ensures.steps) in
    omega (arith, c.loop-column.invariant.2, ap (λ q. size_in (arrays_of q)) step.1)

pub loop-column-preserved : goal.loop-column-preserved
loop-column-preserved g c =
    let o = operations_of g.N.Arithmetic in
    let e = g.N.Arithmetic.nothing in
    let w = c.args.worked.now in
    let p = c.args.plan.now in
    let a = arrays_of p in
    let n = size_in a in
    let k = length c.loop-column.yielded in
    let column = c.in-Some.column in
    let step = columns_more p column (columns_left c.next.new.self) (k + 1) (n - k) (sym c.loop-column.invariant.0 ∙ c.in-Some.ensures.steps) in
    let m = matrix_of e a w in
    let y = c.loop-column.levels in
    let z = c.forward_column.new.levels in
    let At : Plan → ℕ → Type 0 = λ q j. Moves e (arrays_of q) (forward_step o (matrix_of e (arrays_of q) w) j) y z in
    let there : column.position ≡ suc k = omega (arith, step.2) in
    let moved : At p (suc k) = subst (λ q. At q (suc k)) step.1 (subst (At column.plan.now) there c.forward_column.ensures) in
    let grown : suc k ≡ length (c.loop-column.yielded ++ column ∷ []) = omega (arith, length-append c.loop-column.yielded (column ∷ [])) in
    let first : k + 1 + 1 ≡ length (c.loop-column.yielded ++ column ∷ []) + 1 = omega arith in
    let left : n - k - 1 ≡ n - length (c.loop-column.yielded ++ column ∷ []) = omega arith in (
      step.3 ∙ ap₂ (λ x d. columns_at p (range_with_len x d)) first left,
      omega (arith, step.0),
      c.forward_column.auto.levels ∙ c.loop-column.invariant.2,
      λ i l h.
          forward_on o m (by_position e (site_of a) c.args.right.now) (by_position e (site_of a) y) (by_position e (site_of a) z)
          n k i (omega (arith, step.0)) l h c.loop-column.invariant.3 (moved i l h)
          ∙ ap (λ x. forward o m (by_position e (site_of a) c.args.right.now) x i) grown,
    )

pub loop-column-2-init : goal.loop-column-2-init
loop-column-2-init g c =
    let o = operations_of g.N.Arithmetic in
    let e = g.N.Arithmetic.nothing in
    let p = c.args.plan.now in
    let a = arrays_of p in
    let n = size_in a in
    let k = length c.loop-column.yielded in
    let over = columns_end p (k + 1) (n - k) (sym c.loop-column.invariant.0 ∙ c.in-None.ensures.steps.0) in
    let all : k ≡ n = omega (arith, over, c.loop-column.invariant.1) in
    let whole : n ≡ n - 0 = omega arith in (
      ap (λ x. columns_left (rev_source x)) c.into_iter-column-iterator-2.ensures.into_iter_gives ∙ ap columns_left c.rev-column-items.ensures.source ∙ c.columns.ensures
          ∙ ap (λ x. columns_at p (range_with_len 1 x)) whole,
      omega arith,
      c.loop-column.invariant.2,
      λ i l h. c.loop-column.invariant.3 i l h ∙ ap (λ x. forward o (matrix_of e a c.args.worked.now) (by_position e (site_of a) c.args.right.now) x i) all,
    )

pub backward_column-requires-clause-long : goal.backward_column-requires-clause-long
backward_column-requires-clause-long g c =
    let step = columns_back c.args.plan.now c.in-Some-column.column _ 1 _ (sym c.loop-column-2.invariant.0 ∙ c.in-Some-column.ensures.steps) in
    omega (arith, c.if-worked-places.false, c.places.ensures, ap (λ q. length (arrays_of q).rows) step.1)

pub backward_column-requires-clause-size : goal.backward_column-requires-clause-size
backward_column-requires-clause-size g c =
    let step = columns_back c.args.plan.now c.in-Some-column.column _ 1 _ (sym c.loop-column-2.invariant.0 ∙ c.in-Some-column.ensures.steps) in
    omega (arith, c.loop-column-2.invariant.2, ap (λ q. size_in (arrays_of q)) step.1)

pub loop-column-2-preserved : goal.loop-column-2-preserved
loop-column-2-preserved g c =
    let s = solvers_of g.N.Arithmetic g.N.Solving.taken g.N.Solving.divided in
    let e = g.N.Arithmetic.nothing in
    let w = c.args.worked.now in
    let p = c.args.plan.now in
    let a = arrays_of p in
    let n = size_in a in
    let k = length c.loop-column-2.yielded in
    let column = c.in-Some-column.column in
    let step = columns_back p column (columns_left (rev_source c.next-in-loop-column-2.new.self)) 1 (n - k) (sym c.loop-column-2.invariant.0 ∙ c.in-Some-column.ensures.steps) in
    let m = matrix_of e a w in
    let y = c.loop-column-2.levels in
    let v = c.backward_column.new.levels in
    let z = forward s.base m (by_position e (site_of a) c.args.right.now) n in
    let At : Plan → ℕ → Type 0 = λ q j. Moves e (arrays_of q) (backward_step s (matrix_of e (arrays_of q) w) (size_in (arrays_of q)) j) y v in
    let there : column.position ≡ n - k = omega (arith, step.0, step.2) in
    let moved : At p (n - k) = subst (λ q. At q (n - k)) step.1 (subst (At column.plan.now) there c.backward_column.ensures) in
    let grown : suc k ≡ length (c.loop-column-2.yielded ++ column ∷ []) = omega (arith, length-append c.loop-column-2.yielded (column ∷ [])) in
    let left : n - k - 1 ≡ n - length (c.loop-column-2.yielded ++ column ∷ []) = omega arith in (
      step.3 ∙ ap (λ x. columns_at p (range_with_len 1 x)) left,
      omega (arith, step.0),
      c.backward_column.auto.levels ∙ c.loop-column-2.invariant.2,
      λ i l h.
          backward_on s m z (by_position e (site_of a) y) (by_position e (site_of a) v) n k i (omega (arith, step.0)) l h c.loop-column-2.invariant.3 (moved i l h)
          ∙ ap (λ x. backward s m n z x i) grown,
    )

pub returns : goal.returns
returns g c =
    let s = solvers_of g.N.Arithmetic g.N.Solving.taken g.N.Solving.divided in
    let e = g.N.Arithmetic.nothing in
    let p = c.args.plan.now in
    let a = arrays_of p in
    let n = size_in a in
    let m = matrix_of e a c.args.worked.now in
    let z = forward s.base m (by_position e (site_of a) c.args.right.now) n in
    let k = length c.loop-column-2.yielded in
    let over = columns_end p 1 (n - k) (sym c.loop-column-2.invariant.0 ∙ c.in-None-column.ensures.steps.0) in
    let all : k ≡ n = omega (arith, over, c.loop-column-2.invariant.1) in
    solves s a c.args.worked.now c.args.right.now c.args.levels.now c.loop-column-2.levels c.n-n.ensures.keeps
    (omega (arith, c.if-worked-places.false, c.places.ensures)) (omega (arith, c.if-right-n.false, c.n-n.ensures.value)) (omega (arith, c.if-levels-n.false, c.n-n.ensures.value)) c.loop-column-2.invariant.2
    (λ i l h. c.loop-column-2.invariant.3 i l h ∙ ap (λ x. backward s m n z x i) all)
