use Rattle.std.proofs.Common.{◌≡◌, ℕ, ◌+◌, ◌<◌, Bool, Some, false, List, [], ◌∷◌, ◌++◌, map, length, vec_items, sym, refl, ap, ◌∙◌, ap₂, arith}
use Rattle.std.proofs.lemmas.List.{append-nil, append_assoc}
use Rattle.nodeset.specs.Rows.{linked_in as adjacent}
use Rattle.nodeset.specs.Sets.{has, FindsLeast}
use Rattle.sheet.specs.Patterns.{linked_in}
use Rattle.sheet.specs.Views.{pattern_of}
use Rattle.plan.specs.declared.laying.Elimination.{Elimination}
use Rattle.plan.specs.Laid.{at_positions}
use Rattle.plan.specs.Views.{rows_of, link_of}
use Rattle.plan.proofs.Gathered.{indices, indices_past, row_init, row_more, row_none}
use Rattle.plan.proofs.Lays.{rest, labels_at, moves, room_left}
use Rattle.plan.proofs.Members.{Next, walk_some, walk_none}
use Rattle.plan.proofs.layout.Layout.push_column.Goals as goal

-- the rows of the column at index k that are left from an index on
abbrev left : Elimination → ℕ → ℕ → List ℕ
left e k at = rest (at_positions e.order.now (adjacent e.graph.now) (k + 1)) (length e.order.now) at

-- all of them
all_left : (e : Elimination) (k : ℕ) → k < length e.order.now → left e k 0 ≡ rows_of e (k + 1)
all_left e k = row_init (length e.order.now) e.order.now (adjacent e.graph.now) k refl e.later

next : (e : Elimination) (k at i : ℕ) (row : ℕ → Bool) → ((j : ℕ) → row j ≡ indices (length e.order.now) e.order.now (adjacent e.graph.now) k j) → FindsLeast row at (Some i)
    → Next (length e.order.now) (indices (length e.order.now) e.order.now (adjacent e.graph.now) k) at i
next e k at i row is = walk_some row (indices (length e.order.now) e.order.now (adjacent e.graph.now) k) is at (length e.order.now) i (indices_past (length e.order.now) e.order.now (adjacent e.graph.now) k)

-- one place less is left
one_less : (e : Elimination) (k at i : ℕ) (row : ℕ → Bool) → ((j : ℕ) → row j ≡ indices (length e.order.now) e.order.now (adjacent e.graph.now) k j) → FindsLeast row at (Some i)
    → left e k at ≡ (i + 1) ∷ left e k (i + 1)
one_less e k at i row is found = row_more (length e.order.now) e.order.now (adjacent e.graph.now) k at i (next e k at i row is found)

pub loop-i-init : goal.loop-i-init
loop-i-init c =
    let e = c.args.from.now in
    let k = c.args.k in
    let same = c.into_iter-i-iterator.ensures.into_iter_gives in
    let set = ap (λ s. s.set) same ∙ c.iter-i-items.ensures.set in
    let from = ap (λ s. s.from) same ∙ c.iter-i-items.ensures.from in
    let all = ap (left e k) from ∙ all_left e k c.requires.within in
    record {
      can = tt;
      ends = tt;
      column = λ i. ap (λ s. has s i) set ∙ c.column.ensures i;
      low = omega (arith, from);
      starts = c.push_place.ensures.starts;
      rows = ap₂ (λ (xs ys : List ℕ). xs ++ ys) c.push_place.ensures.rows all ∙ append_assoc (vec_items c.args.self.now.rows) ((k + 1) ∷ []) (rows_of e (k + 1));
      links = ap₂ (λ (xs : List Bool) ys. xs ++ map (link_of e (k + 1)) ys) c.push_place.ensures.links all ∙ append_assoc (vec_items c.args.self.now.links) (false ∷ []) (map (link_of e (k + 1)) (rows_of e (k + 1)));
    }

pub push_place-requires-in-loop-i : goal.push_place-requires-in-loop-i
push_place-requires-in-loop-i c =
    let e = c.args.from.now in
    let k = c.args.k in
    let more = one_less e k _ c.in-Some.i _ c.loop-i.invariant.column c.in-Some.ensures.steps.least in
    omega (
      arith,
      room_left (vec_items c.loop-i.self.rows) _ _ _ (vec_items c.args.self.now.rows) ((k + 1) ∷ rows_of e (k + 1)) c.loop-i.invariant.rows more,
      c.loop-i.self.rows.ok.0,
      c.args.self.now.rows.ok.0,
      c.requires.room,
    )

pub loop-i-preserved : goal.loop-i-preserved
loop-i-preserved c =
    let e = c.args.from.now in
    let k = c.args.k in
    let i = c.in-Some.i in
    let gives = c.in-Some.ensures.steps in
    let so_far = c.loop-i.invariant in
    let w = next e k _ i _ so_far.column gives.least in
    let more = one_less e k _ i _ so_far.column gives.least ∙ ap (λ m. (i + 1) ∷ left e k m) (sym gives.from) in
    let link = c.linked.ensures ∙ sym (labels_at e.order.now (linked_in (pattern_of e.sheet.now).links) k i) in
    record {
      can = tt;
      ends = tt;
      column = λ j. ap (λ s. has s j) gives.set ∙ so_far.column j;
      low = omega (arith, w.high, gives.from);
      starts = c.push_place-in-loop-i.ensures.starts ∙ so_far.starts;
      rows = moves (vec_items c.loop-i.self.rows) _ _ _ _ _ _ c.push_place-in-loop-i.ensures.rows refl so_far.rows more;
      links = moves (vec_items c.loop-i.self.links) _ _ _ _ _ _ c.push_place-in-loop-i.ensures.links link so_far.links (ap (map (link_of e (k + 1))) more);
    }

pub returns : goal.returns
returns c =
    let e = c.args.from.now in
    let k = c.args.k in
    let so_far = c.loop-i.invariant in
    let n = length e.order.now in
    let rows = adjacent e.graph.now in
    let none = row_none n e.order.now rows k c.loop-i.i-iterator.from so_far.low
    (walk_none (has c.loop-i.i-iterator.set) (indices n e.order.now rows k) so_far.column c.loop-i.i-iterator.from c.in-None.ensures.steps.least) in
    record {
      starts = so_far.starts;
      rows = sym (append-nil (vec_items c.loop-i.self.rows)) ∙ ap (λ (xs : List ℕ). vec_items c.loop-i.self.rows ++ xs) (sym none) ∙ so_far.rows;
      links = sym (append-nil (vec_items c.loop-i.self.links)) ∙ ap (λ (xs : List ℕ). vec_items c.loop-i.self.links ++ map (link_of e (k + 1)) xs) (sym none) ∙ so_far.links;
    }
