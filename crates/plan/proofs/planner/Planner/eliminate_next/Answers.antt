use Rattle.std.proofs.Common.{◌≡◌, ℕ, ◌+◌, ◌-◌, ◌<◌, ◌≤◌, false, List, [], ◌∷◌, ◌++◌, length, get_or, vec_items, vec_len, sym, refl, ap, ◌∙◌, subst, arith}
use Rattle.std.proofs.lemmas.List.{get_or_read_under}
use Rattle.graph.proofs.Orders.{without}
use Rattle.nodeset.specs.Rows.{linked_in as adjacent}
use Rattle.plan.specs.declared.planner.Planner.{Planner}
use Rattle.plan.specs.declared.records.NodeRecord.{NodeRecord}
use Rattle.plan.specs.Stages.{Stands}
use Rattle.plan.specs.Tables.{blank, gone_in, degree_in}
use Rattle.plan.proofs.Picks.{picks, picks_some}
use Rattle.plan.proofs.Steps.{stands_more}
use Rattle.plan.proofs.planner.Planner.eliminate_next.Goals as goal

-- the label at the index that was found
record Found (me : Planner) (i label : ℕ) : Type 0 where
  is : label ≡ get_or (vec_items me.left) i 0
  low : 0 < label
  high : label ≤ me.n

index_found : (me : Planner) (shown : List ℕ) (i : ℕ) → shown ≡ vec_items me.left → i < length shown → i < vec_len me.left
index_found me shown i same h = omega (arith, h, ap (λ (ls : List ℕ). length ls) same, me.left.ok.0)

found : (me : Planner) (shown : List ℕ) (i label : ℕ) → shown ≡ vec_items me.left → i < length shown → label ≡ get_or (vec_items me.left) i label → Found me i label
found me shown i label same l e =
    let h = index_found me shown i same l in
    let is = get_or_read_under (vec_items me.left) i (vec_len me.left) label 0 e h me.left.ok.0 in
    let f = me.labelled i 0 (omega (arith, h, me.left.ok.0)) in
    record { is = is; low = omega (arith, is, f.0); high = omega (arith, is, f.1) }

pub remove-label-requires : goal.remove-label-requires
remove-label-requires g c = index_found c.args.self.now _ c.in-Some.i c.deref-2.ensures.value c.in-Some.ensures.0

pub overflow_sub-v : goal.overflow_sub-v
overflow_sub-v g c =
    (found c.args.self.now _ c.in-Some.i c.remove-label.result c.deref-2.ensures.value c.in-Some.ensures.0 c.remove-label.ensures.value).low

pub index-requires : goal.index-requires
index-requires g c =
    let f = found c.args.self.now _ c.in-Some.i c.remove-label.result c.deref-2.ensures.value c.in-Some.ensures.0 c.remove-label.ensures.value in
    omega (arith, f.low, f.high, c.args.self.now.noted)

pub index_mut-requires : goal.index_mut-requires
index_mut-requires g c =
    let f = found c.args.self.now _ c.in-Some.i c.remove-label.result c.deref-2.ensures.value c.in-Some.ensures.0 c.remove-label.ensures.value in
    omega (arith, f.low, f.high, c.args.self.now.noted)

pub settle-requires : goal.settle-requires
settle-requires g c =
    let f = found c.args.self.now _ c.in-Some.i c.remove-label.result c.deref-2.ensures.value c.in-Some.ensures.0 c.remove-label.ensures.value in
    omega (arith, f.low, f.high)

pub returns-in-Some : goal.returns-in-Some
returns-in-Some g c =
    let me = c.args.self.now in
    let end = c.settle.new.self in
    let price = g.R.Rule.priced c.args.rule.now in
    let i = c.in-Some.i in
    let label = c.remove-label.result in
    let rest = c.settle.ensures.rest in
    let f = found me _ i label c.deref-2.ensures.value c.in-Some.ensures.0 c.remove-label.ensures.value in
    let len : length (vec_items me.nodes) ≡ me.n = sym me.nodes.ok.0 ∙ me.noted in
    let q : label - 1 + 1 ≡ label = omega (arith, f.low) in
    let degree = ap (λ (r : NodeRecord). r.degree) (get_or_read_under (vec_items me.nodes) (label - 1) (vec_len me.nodes) c.index.result.now blank c.index.ensures (omega (arith, f.low, f.high, me.noted)) me.nodes.ok.0) in
    let order : vec_items me.order ++ (label - 1 + 1) ∷ [] ≡ vec_items end.order = ap (λ x. vec_items me.order ++ x ∷ []) q ∙ sym (ap vec_items rest.order ∙ c.push_reserved.ensures.items) in
    let places : me.places + (1 + degree_in (vec_items me.nodes) (label - 1)) ≡ end.places = omega (arith, rest.places, degree) in
    record {
      size = rest.size;
      longer = omega (arith, ap vec_len rest.order, c.push_reserved.ensures.len);
      stands = λ linked k two_way more st.
          let p = picks price me.n linked k (vec_items me.nodes) _ (adjacent me.rows) (vec_items me.left) _ (vec_items me.order) me.places len more c.deref.ensures.value c.deref-2.ensures.value st i c.in-Some.ensures in
          let live : gone_in (vec_items me.nodes) (label - 1) ≡ false = ap (λ x. gone_in (vec_items me.nodes) (x - 1)) f.is ∙ p.live.live in
          let drops : vec_items end.left ≡ without (label - 1 + 1) (vec_items me.left) =
          ap vec_items rest.left ∙ c.remove-label.ensures.items ∙ p.drops ∙ ap (λ x. without x (vec_items me.left)) (sym (q ∙ f.is)) in
          let all = stands_more price me.n linked k (vec_items me.nodes) (vec_items end.nodes) (adjacent me.rows) (adjacent end.rows) (vec_items me.left) (vec_items end.left) (vec_items me.order) me.places (label - 1) _ two_way len (sym end.nodes.ok.0 ∙ end.noted ∙ rest.size) more (omega (arith, f.low, f.high)) (q ∙ f.is ∙ p.label_is) live st c.settle.ensures.rows c.settle.ensures.nodes drops in
          let At : ℕ → List ℕ → ℕ → Type 0 = λ n os m. Stands price n linked (k + 1) (vec_items end.nodes) (adjacent end.rows) (vec_items end.left) os m in
          subst (λ n. At n (vec_items end.order) end.places) (sym rest.size) (subst (λ os. At me.n os end.places) order (subst (λ m. At me.n (vec_items me.order ++ (label - 1 + 1) ∷ []) m) places all));
    }

pub returns-in_default : goal.returns-in_default
returns-in_default g c =
    let me = c.args.self.now in
    record {
      size = refl;
      longer = omega arith;
      stands = λ linked k two_way more st.
          absurd (picks_some (g.R.Rule.priced c.args.rule.now) me.n linked k (vec_items me.nodes) _ (adjacent me.rows) (vec_items me.left) _ (vec_items me.order) me.places (sym me.nodes.ok.0 ∙ me.noted) more c.deref.ensures.value c.deref-2.ensures.value st (rw c.in_default.is at c.next.ensures));
    }
