use Rattle.std.proofs.Common.{◌≡◌, ℕ, ◌+◌, ◌-◌, ◌<◌, length, get_or, take, set, sym, refl, ap, ◌∙◌, arith, length-set}
use mathlib.Core.Path.{fun_ext}
use Rattle.std.proofs.lemmas.List.{length-take-le, take_more, take_all, get_or-take}
use Rattle.std.proofs.lemmas.Bool.{eqb-false}
use Rattle.graph.specs.Picking.{place_from}
use Rattle.sheet.specs.Views.{pattern_of}
use Rattle.plan.specs.Given.{place_in}
use Rattle.plan.proofs.Turns.{turns_none, turns_more}
use Rattle.plan.proofs.given.GivenOrder.of.Goals as goal

pub loop-i-init : goal.loop-i-init
loop-i-init c = (refl, turns_none)

pub loop-i-preserved : goal.loop-i-preserved
loop-i-preserved c =
    let s = pattern_of c.args.sheet.now in
    let law = c.n.ensures.lawful in
    let words = c.order-order.result.now in
    let order = take c.n.result words in
    let said = c.order-order.ensures in
    let i = c.loop-i.i in
    let x = get_or order i 0 in
    let some : 0 < length s.order = omega (arith, eqb-false (length words) 0 (sym c.if-is_empty.ensures), ap (λ l. length l) said) in
    let whole : length words ≡ c.n.result = ap (λ l. length l) said ∙ law.whole some ∙ sym c.n.ensures.value in
    let is : order ≡ s.order = take_all c.n.result words (omega (arith, whole)) ∙ said in
    let long : length order ≡ c.n.result = ap (λ l. length l) is ∙ law.whole some ∙ sym c.n.ensures.value in
    let at : get_or order i 0 ≡ get_or s.order i 0 = ap (λ l. get_or l i 0) is in
    let label = law.rules.ordered i (omega (arith, long, ap (λ l. length l) is)) in
    let len = length-take-le i order (omega (arith, long)) in
    let new : (j : ℕ) → j < length (take i order) → get_or (take i order) j 0 ≡ x → ⊥ =
    λ j h e. law.rules.ordered_once j i (omega (arith, len), omega (arith, long, ap (λ l. length l) is), sym (ap (λ l. get_or l j 0) is) ∙ sym (get_or-take i order j 0 (omega (arith, len))) ∙ e ∙ at) in (
      simp length-set c.loop-i.invariant.0,
      λ v. ap (λ m. place_in (set c.loop-i.places (x - 1) (m + 1)) v) (sym len)
          ∙ turns_more c.loop-i.places (take i order) x c.loop-i.invariant.0 (omega (arith, at, label.0)) (omega (arith, at, label.1, law.rules.size.1)) new c.loop-i.invariant.1 v
          ∙ ap (λ l. place_from 1 l v) (sym (take_more order i 0 (omega (arith, long)))),
    )

pub returns : goal.returns
returns c =
    let s = pattern_of c.args.sheet.now in
    let law = c.n.ensures.lawful in
    let words = c.order-order.result.now in
    let order = take c.n.result words in
    let said = c.order-order.ensures in
    let some : 0 < length s.order = omega (arith, eqb-false (length words) 0 (sym c.if-is_empty.ensures), ap (λ l. length l) said) in
    let whole : length words ≡ c.n.result = ap (λ l. length l) said ∙ law.whole some ∙ sym c.n.ensures.value in
    let is : order ≡ s.order = take_all c.n.result words (omega (arith, whole)) ∙ said in
    let long : length order ≡ c.n.result = ap (λ l. length l) is ∙ law.whole some ∙ sym c.n.ensures.value in
    (some, fun_ext (λ v. fun_ext (λ d. c.loop-i.invariant.1 v ∙ ap (λ l. place_from 1 l v) (take_all c.loop-i.i order (omega (arith, long)) ∙ is))))
