use Rattle.std.proofs.Common.{◌≡◌, ◌&&◌, ◌||◌, eqb, ltb, length, set, vec_items, ap, ◌∙◌, arith, length-set}
use Rattle.nodeset.specs.Sets.{has}
use Rattle.nodeset.proofs.Rowed.{row_read, rows_linked}
use Rattle.nodeset.proofs.rows.Rows.link.Goals as goal

pub returns-then-b-lt512 : goal.returns-then-b-lt512
returns-then-b-lt512 c =
    let me = c.args.self.now in
    let sets = vec_items me.sets in
    let a = c.args.a in
    let b = c.args.b in
    let x = c.insert.new.self in
    let long : length sets ≡ 512 = omega (arith, me.all, me.sets.ok.0) in
    let row_a = row_read sets a c.index_mut.result.now long c.if-a-lt512.true c.index_mut.ensures.value in
    let row_b = row_read (set sets a x) b c.index_mut-then-b-lt512.result.now (length-set sets a x ∙ long) c.if-b-lt512.true c.index_mut-then-b-lt512.ensures.value in
    rows_linked sets a b x c.insert-then-b-lt512.new.self long c.if-a-lt512.true c.if-b-lt512.true
    (λ j. c.insert.ensures j ∙ ap (λ s. has s j || (eqb b j && ltb j 512)) row_a)
    (λ j. c.insert-then-b-lt512.ensures j ∙ ap (λ s. has s j || (eqb a j && ltb j 512)) row_b)
