use Rattle.std.proofs.Common.{◌≡◌, not, ◌&&◌, ◌||◌, eqb, length, vec_items, ap, ◌∙◌, ap₂, arith}
use Rattle.nodeset.specs.Sets.{has}
use Rattle.nodeset.proofs.Rowed.{row_read, row_joined}
use Rattle.nodeset.proofs.rows.Rows.join.Goals as goal

pub returns-then-a-lt512 : goal.returns-then-a-lt512
returns-then-a-lt512 c =
    let me = c.args.self.now in
    let sets = vec_items me.sets in
    let v = c.args.v in
    let a = c.args.a in
    let long : length sets ≡ 512 = omega (arith, me.all, me.sets.ok.0) in
    let row_v = row_read sets v c.index.result.now long c.if-v-lt512.true c.index.ensures in
    let row_a = row_read sets a c.index-then-a-lt512.result.now long c.if-a-lt512.true c.index-then-a-lt512.ensures in
    row_joined sets a (omega (arith, long, c.if-a-lt512.true)) c.remove-then-a-lt512.new.self v c.if-v-lt512.true c.if-a-lt512.true (λ j.
    c.remove-then-a-lt512.ensures j
    ∙ ap (λ t. t && not (eqb v j)) (c.remove.ensures j ∙ ap (λ t. t && not (eqb a j)) (c.join.ensures j ∙ ap₂ (λ x y. has x j || has y j) row_v row_a)))
