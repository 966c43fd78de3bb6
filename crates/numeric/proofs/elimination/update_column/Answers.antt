use Rattle.std.proofs.Common.{◌≡◌, ◌+◌, ◌<◌, ◌≤◌, set, sym, ◌∙◌, subst, arith}
use Rattle.std.proofs.lemmas.List.{get_or_read}
use Rattle.arith.specs.Operations.{operations_of}
use Rattle.numeric.specs.Updates.{Updated}
use Rattle.numeric.proofs.Walks.{Walked, walk_rest, walk_skip, walk_meet}
use Rattle.numeric.proofs.elimination.update_column.Goals as goal
use Rattle.numeric.proofs.elimination.update_column.Goals.{else-next-sources-via-then-next-sources+else-rows-at, else-next-sources-via-else-next-sources}

pub loop-at-preserved-then-rows-at : goal.loop-at-preserved-then-rows-at
loop-at-preserved-then-rows-at g c =
    let o = operations_of g.N.Arithmetic in
    let from = c.args.worked.now in
    let now = c.loop-at.worked in
    let rows = c.args.rows.now in
    let s = c.args.sources.start in
    let f = c.args.sources.end in
    let t = c.args.targets.start in
    let h = c.args.targets.end in
    let at = c.in-Some.at in
    let next = c.loop-at.next in
    let steps = c.in-Some.ensures.steps in
    let at_is = steps.1.1 in
    let low : t ≤ at = omega (arith, at_is, c.loop-at.invariant.1) in
    let below : at < h = omega (arith, at_is, steps.1.0, c.loop-at.invariant.0) in
    let more : at + 1 ≡ c.next.new.self.start = omega (arith, at_is, steps.1.2) in
    let walked = subst (λ q. Walked o rows s f t h from q next now) (sym at_is) c.loop-at.invariant.3 in
    let e = o.nothing in
    let v = c.update.result in
    let a = get_or_read now at c.index-worked-at.result (omega (arith, c.loop-at.auto.worked, c.requires.ordered)) c.index-worked-at.is e in
    let u = get_or_read now next c.index-worked-next.result (omega (arith, c.loop-at.auto.worked, c.if-next-sources.true, c.requires.ordered)) c.index-worked-next.is e in
    let d = get_or_read from 0 c.index-worked-0.result (omega (arith, c.requires.ordered)) c.index-worked-0.is e in
    let b = get_or_read from s c.index-worked-sources.result (omega (arith, c.requires.ordered)) c.index-worked-sources.is e in (
      steps.0 ∙ c.loop-at.invariant.0,
      omega arith,
      omega arith,
      subst (λ q. Walked o rows s f t h from q (next + 1) (set now at v)) more
          (walk_meet o rows s f t h from c.requires.rises c.requires.rises_later at next now walked low below
          v c.if-next-sources.true c.requires.ordered.1 (omega (arith, c.loop-at.auto.worked, c.requires.ordered)) c.if-rows-at.true (cc (a, u, d, b, c.update.ensures))),
    )

pub loop-at-preserved : goal.loop-at-preserved
loop-at-preserved g c =
    let o = operations_of g.N.Arithmetic in
    let from = c.args.worked.now in
    let now = c.loop-at.worked in
    let rows = c.args.rows.now in
    let s = c.args.sources.start in
    let f = c.args.sources.end in
    let t = c.args.targets.start in
    let h = c.args.targets.end in
    let at = c.in-Some.at in
    let next = c.loop-at.next in
    let steps = c.in-Some.ensures.steps in
    let at_is = steps.1.1 in
    let low : t ≤ at = omega (arith, at_is, c.loop-at.invariant.1) in
    let below : at < h = omega (arith, at_is, steps.1.0, c.loop-at.invariant.0) in
    let more : at + 1 ≡ c.next.new.self.start = omega (arith, at_is, steps.1.2) in
    let walked = subst (λ q. Walked o rows s f t h from q next now) (sym at_is) c.loop-at.invariant.3 in (
      steps.0 ∙ c.loop-at.invariant.0,
      omega arith,
      omega arith,
      subst (λ q. Walked o rows s f t h from q next now) more (elim c.else-next-sources.branch [
        | else-next-sources-via-then-next-sources+else-rows-at x ↦
            walk_skip o rows s f t h from c.requires.rises c.requires.rises_later at next now walked low below
            c.requires.contained x.if-next-sources.true x.if-rows-at.false
        | else-next-sources-via-else-next-sources x ↦
            walk_rest o rows s f t h from c.requires.rises c.requires.rises_later at next now walked low below x.if-next-sources.false
      ]),
    )

pub returns : goal.returns
returns g c =
    let o = operations_of g.N.Arithmetic in
    let end : c.loop-at.at-iterator.start ≡ c.args.targets.end = omega (arith, c.in-None.ensures.steps.1.0, c.loop-at.invariant.0, c.loop-at.invariant.2) in
    subst (λ q. Updated o c.args.rows.now 0 c.args.sources.start c.args.sources.end c.args.targets.start q c.args.worked.now c.loop-at.worked) end c.loop-at.invariant.3.done
