use Rattle.std.proofs.Common.{◌≡◌, ℕ, zero, suc, ◌+◌, false, List, [], ◌∷◌, ◌++◌, vec_items, sym, refl, ap, ◌∙◌, ap₂, arith}
use Rattle.std.specs.List.{range_with_len}
use Rattle.std.proofs.lemmas.List.FromFn.{map-range_with_len_more}
use Rattle.std.proofs.lemmas.List.{nil_from_length}
use Rattle.nodeset.specs.Rows.{linked_in as adjacent}
use Rattle.nodeset.specs.Sets.{count_below}
use Rattle.plan.proofs.Counts.{count_inside}
use Rattle.plan.proofs.planner.starting.note_nodes.Goals as goal

counting_more : (a n j : ℕ) → a + n ≡ j → range_with_len a (n + 1) ≡ range_with_len a n ++ j ∷ []
counting_more a zero j e = grind arith
counting_more a (suc n) j e =
    let q : suc n + 1 ≡ suc (n + 1) = omega arith in grind (arith, ap (range_with_len a) q, counting_more (a + 1) n j (omega arith))

pub loop-a-init : goal.loop-a-init
loop-a-init c = (
  nil_from_length (vec_items c.args.nodes.now) (omega (arith, c.args.nodes.now.ok.0, c.requires.empty.0)),
  nil_from_length (vec_items c.args.left.now) (omega (arith, c.args.left.now.ok.0, c.requires.empty.1)),
  c.requires.empty.0,
  c.requires.empty.1,
  refl,
  refl,
)

pub loop-a-preserved : goal.loop-a-preserved
loop-a-preserved c =
    let row = adjacent c.args.graph.now c.loop-a.a in
    let n = c.args.n in
    let degree : c.degree.result ≡ count_below row n = c.degree.ensures ∙ count_inside row n c.requires.small (c.requires.inside c.loop-a.a) in (
      c.push_reserved.ensures.items
          ∙ ap₂ (λ xs d. xs ++ record { degree = d; gone = false } ∷ []) c.loop-a.invariant.0 degree
          ∙ sym (map-range_with_len_more (λ a. record { degree = count_below (adjacent c.args.graph.now a) n; gone = false }) 0 c.loop-a.a c.loop-a.a (omega arith)),
      c.push_reserved-in-loop-a.ensures.items ∙ ap (λ (xs : List ℕ). xs ++ (c.loop-a.a + 1) ∷ []) c.loop-a.invariant.1 ∙ sym (counting_more 1 c.loop-a.a (c.loop-a.a + 1) (omega arith)),
      omega (arith, c.push_reserved.ensures.len, c.loop-a.invariant.2),
      omega (arith, c.push_reserved-in-loop-a.ensures.len, c.loop-a.invariant.3),
      c.push_reserved.ensures.capacity ∙ c.loop-a.invariant.4,
      c.push_reserved-in-loop-a.ensures.capacity ∙ c.loop-a.invariant.5,
    )
