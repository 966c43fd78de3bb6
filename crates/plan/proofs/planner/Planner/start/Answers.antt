use Rattle.std.proofs.Common.{◌≡◌, ℕ, ◌+◌, ◌<◌, ◌≤◌, List, length, get_or, vec_items, sym, refl, ap, ◌∙◌, subst, arith}
use Rattle.std.specs.List.{range_with_len}
use Rattle.std.proofs.lemmas.List.FromFn.{get_or-range_with_len, length-range_with_len, length-map-range_with_len}
use Rattle.std.proofs.lemmas.List.{nil_from_length}
use Rattle.nodeset.specs.Rows.{linked_in as adjacent}
use Rattle.sheet.specs.Patterns.{linked_in, LinkLabels}
use Rattle.sheet.specs.Views.{pattern_of}
use Rattle.plan.specs.Scan.{Labels}
use Rattle.plan.proofs.Starts.{none_alone, none_outside, stands_none}
use Rattle.plan.proofs.planner.Planner.start.Goals as goal

-- labels of n nodes are labels of 512
widened : (n : ℕ) (links : List (ℕ × ℕ)) → n ≤ 512 → LinkLabels n links → LinkLabels 512 links
widened n links small labels i h = let l = labels i h in ((l.0.0, omega (arith, l.0.1)), (l.1.0, omega (arith, l.1.1)))

counted : (n : ℕ) (left : List ℕ) → left ≡ range_with_len 1 n → Labels n left
counted n left e i d h =
    let l : i < n = omega (arith, h, ap (λ (xs : List ℕ). length xs) e, length-range_with_len 1 n) in
    let is : get_or left i d ≡ 1 + i = ap (λ xs. get_or xs i d) e ∙ get_or-range_with_len 1 n i d l in
    (omega (arith, is), omega (arith, is, l))

pub link_nodes-requires : goal.link_nodes-requires
link_nodes-requires c =
    let s = pattern_of c.args.sheet.now in
    let law = c.n-n.ensures.lawful.rules in
    record { none = c.requires.none; labels = subst (LinkLabels 512) (sym c.links.ensures) (widened s.n s.links law.size.1 law.labels) }

pub note_nodes-requires : goal.note_nodes-requires
note_nodes-requires c =
    let s = pattern_of c.args.sheet.now in
    let law = c.n-n.ensures.lawful.rules in
    let labels = subst (λ m. LinkLabels m s.links) (sym c.n-n.ensures.value) law.labels in
    record {
      small = omega (arith, c.n-n.ensures.value, law.size.1);
      inside = none_outside c.n-n.result s.links (adjacent c.link_nodes.new.graph) law.join labels (λ a b. c.link_nodes.ensures a b ∙ ap (λ ls. linked_in ls (a + 1) (b + 1)) c.links.ensures);
      empty = (c.requires.empty.0, c.requires.empty.1.0);
      room = (omega (arith, c.n-n.ensures.value, law.size.1, c.requires.room.0), omega (arith, c.n-n.ensures.value, law.size.1, c.requires.room.1.0));
    }

pub invariant_of-result : goal.invariant_of-result
invariant_of-result c =
    let s = pattern_of c.args.sheet.now in
    let law = c.n-n.ensures.lawful.rules in
    let n = c.n-n.result in
    let held = adjacent c.link_nodes.new.graph in
    let labels = subst (λ m. LinkLabels m s.links) (sym c.n-n.ensures.value) law.labels in
    let shows : (a b : ℕ) → held a b ≡ linked_in s.links (a + 1) (b + 1) = λ a b. c.link_nodes.ensures a b ∙ ap (λ ls. linked_in ls (a + 1) (b + 1)) c.links.ensures in
    let small : n ≤ 512 = omega (arith, c.n-n.ensures.value, law.size.1) in
    let noted = c.note_nodes.new.nodes.ok.0 ∙ ap (λ rs. length rs) c.note_nodes.ensures.nodes ∙ length-map-range_with_len _ 0 n in
    record {
      small = small;
      noted = noted;
      labelled = counted n (vec_items c.note_nodes.new.left) c.note_nodes.ensures.labels;
      room = c.requires.room.1.1;
      alone = none_alone n s.links held law.join labels shows;
      inside = none_outside n s.links held law.join labels shows;
    }

pub returns : goal.returns
returns c =
    let s = pattern_of c.args.sheet.now in
    let law = c.n-n.ensures.lawful.rules in
    let n = c.n-n.result in
    let labels = subst (λ m. LinkLabels m s.links) (sym c.n-n.ensures.value) law.labels in
    record {
      size = c.n-n.ensures.value;
      some = omega (arith, c.n-n.ensures.value, law.size.0);
      kept = (c.requires.empty.1.1, refl);
      stands = λ price.
          stands_none n s.links (adjacent c.link_nodes.new.graph) law.join labels (λ a b. c.link_nodes.ensures a b ∙ ap (λ ls. linked_in ls (a + 1) (b + 1)) c.links.ensures)
          price (vec_items c.note_nodes.new.nodes) (vec_items c.note_nodes.new.left) (vec_items c.args.order) c.note_nodes.ensures.nodes c.note_nodes.ensures.labels
          (nil_from_length (vec_items c.args.order) (omega (arith, c.args.order.ok.0, c.requires.empty.1.1)));
    }
