-- One elimination on the planner's tables.
use Rattle.std.proofs.Common.{◌≡◌, ℕ, zero, suc, ◌+◌, ◌-◌, ◌<◌, Bool, true, false, cond, not, ◌&&◌, ◌||◌, eqb, ◌≢◌, List, [], ◌∷◌, ◌++◌, map, length, set, filter, sym, refl, ap, ◌∙◌, subst, ap₂, inl, inr, arith, length-set}
use Rattle.std.specs.List.{range_with_len}
use Rattle.std.proofs.lemmas.List.FromFn.{map-range_with_len_more}
use Rattle.std.proofs.lemmas.List.{get_or-set_same, get_or-set_other}
use Rattle.std.proofs.lemmas.List.Elements.{filter_agree}
use Rattle.std.proofs.lemmas.Bool.{true≢false, cases_Bool, cases_lt, eqb-true, lt-ltb, and_right}
use Rattle.std.proofs.lemmas.Bool.Decides.{nat_tests}
use Rattle.graph.specs.Columns.{member}
use Rattle.graph.specs.Graphs.{Graph, start, neighbours, degree}
use Rattle.graph.specs.Picking.{Price, remaining, picked}
use Rattle.graph.specs.Theorems.{TwoWay}
use Rattle.graph.proofs.Orders.{occurs, without, left_at, gone_after, label, member_none, member_kept}
use Rattle.nodeset.specs.Sets.{count_below}
use Rattle.plan.specs.declared.records.NodeRecord.{NodeRecord}
use Rattle.plan.specs.Stages.{Stands}
use Rattle.plan.specs.Tables.{Grid, joined_cell, settled_rows, Agree, blank, gone_in, degree_in, labels, Recounted}
use Rattle.plan.proofs.Counts.{count_same, row_count}
use Rattle.plan.proofs.Labels.{labels_same, labels_gone, member_labels}

-- links go both ways at every stage
pub two_way_after : (price : Price) (g : Graph) → TwoWay g.linked → (k : ℕ) → TwoWay (remaining price g k).linked
two_way_after price g s zero a b = s a b
two_way_after price g s (suc k) a b = grind (arith, two_way_after price g s k a b)

eqb_next : (a b : ℕ) → eqb (a + 1) (b + 1) ≡ eqb a b
eqb_next a b = grind (arith, nat_tests)

-- a joined cell, where t says whether the row was joined, m whether the column's label is left, x and y whether it is the
-- row's own or the one that goes, and l and lv whether it is linked to the two
agree : (t m x y l lv : Bool) → (t ≡ false → y ≡ true → l ≡ false)
    → cond t (not x && (not y && ((m && (not x && l)) || (m && (not y && lv))))) (m && (not x && l)) ≡ ((m && not y) && (not x && (l || (t && lv))))
agree t m x y l lv h = grind (arith, h)

-- what is not kept need not be there
pub kept_without : (test : ℕ → Bool) (v : ℕ) (xs : List ℕ) → test v ≡ false → filter test (without v xs) ≡ filter test xs
kept_without test v [] no' = refl
kept_without test v (x ∷ xs) no' = grind (arith, nat_tests, no', kept_without test v xs no')

-- the degree of a label that is not linked to the one that goes stays
degree_stays : (g : Graph) (v a : ℕ) → g.linked v a ≡ false → g.linked a v ≡ false
    → length (filter (λ w. not (eqb w a) && (g.linked a w || (g.linked v a && g.linked v w))) (without v g.left)) ≡ degree g a
degree_stays g v a no' no'' =
    ap (λ (ls : List ℕ). length ls)
    (filter_agree _ (λ w. not (eqb w a) && g.linked a w) (λ w. grind (arith, no')) (without v g.left)
    ∙ kept_without (λ w. not (eqb w a) && g.linked a w) v g.left (and_right (not (eqb v a)) (g.linked a v) no''))

pub member_neighbours : (g : Graph) (a w : ℕ) → member w (neighbours g a) ≡ (member w g.left && (not (eqb w a) && g.linked a w))
member_neighbours g a w = member_kept (λ x. not (eqb x a) && g.linked a x) w g.left

module _ (price : Price) (n : ℕ) (linked : ℕ → ℕ → Bool) (k : ℕ) (nodes nodes' : List NodeRecord) (held held' : Grid)
    (listed listed' order : List ℕ) (places v d : ℕ) (two_way : TwoWay linked) (len : length nodes ≡ n) (len' : length nodes' ≡ n) (more : k < n) (hv : v < n)
    (goes : v + 1 ≡ picked price (start n linked) k) (live : gone_in nodes v ≡ false) (stands : Stands price n linked k nodes held listed order places)
    (joins : Agree n held' (settled_rows held v n))
    (counts : Recounted n held v n (set nodes v (record { degree = d; gone = true })) nodes') (drops : listed' ≡ without (v + 1) listed) where
  abbrev g : Graph
  g = start n linked

  abbrev now' : Graph
  now' = remaining price g k

  abbrev then' : Graph
  then' = remaining price g (suc k)

  abbrev went : NodeRecord
  went = record { degree = d; gone = true }

  abbrev marked : List NodeRecord
  marked = set nodes v went

  marked_length : length marked ≡ n
  marked_length = simp length-set len

  step_left : labels 1 nodes' ≡ then'.left
  step_left =
      let q : 1 + v ≡ picked price g k = omega (arith, goes) in
      labels_same 1 nodes' marked (len' ∙ sym marked_length) (λ i h. counts.flags i (omega arith))
      ∙ labels_gone 1 nodes v went (omega arith) refl ∙ ap₂ (λ x ls. without x ls) q stands.left

  -- who is left, as a member
  left_is : (a : ℕ) → a < n → member (a + 1) now'.left ≡ not (gone_in nodes a)
  left_is a h = let q : a + 1 ≡ 1 + a = omega arith in ap₂ (λ x ls. member x ls) q (sym stands.left) ∙ member_labels 1 nodes a (omega arith)

  -- a node that is left after the step
  live_before : (a : ℕ) → a < n → gone_in nodes' a ≡ false → (a ≢ v) × (gone_in nodes a ≡ false)
  live_before a h e =
      let f : gone_in marked a ≡ false = sym (counts.flags a h) ∙ e in
      let ne : a ≢ v = λ q. true≢false (sym (ap (gone_in marked) q ∙ ap (λ (r : NodeRecord). r.gone) (get_or-set_same nodes v went blank (omega arith))) ∙ f) in
      (ne, ap (λ (r : NodeRecord). r.gone) (sym (get_or-set_other nodes v a went blank ne)) ∙ f)

  -- the rows by what is linked
  row_is : (a b : ℕ) → a < n → b < n → gone_in nodes a ≡ false → held a b ≡ (member (b + 1) now'.left && (not (eqb b a) && now'.linked (a + 1) (b + 1)))
  row_is a b ha hb e = grind (arith, stands.rows a b ha hb e, member_neighbours now' (a + 1) (b + 1), eqb_next b a)

  -- row v at a node that is left, and not v
  row_v_at : (a : ℕ) → a < n → a ≢ v → gone_in nodes a ≡ false → held v a ≡ now'.linked (v + 1) (a + 1)
  row_v_at a h ne e = grind (arith, nat_tests, row_is v a hv h live, left_is a h, e, ne)

  -- row a after the step, for a node below n
  row_after : (a b : ℕ) → a < n → b < n → held' a b ≡ cond (held v a) (joined_cell held v a b) (held a b)
  row_after a b ha hb = grind (arith, nat_tests, joins a b ha hb)

  step_rows : (a b : ℕ) → a < n → b < n → gone_in nodes' a ≡ false → held' a b ≡ member (b + 1) (neighbours then' (a + 1))
  step_rows a b ha hb e =
      let l = live_before a ha e in
      let t = now'.linked (v + 1) (a + 1) in
      let m = member (b + 1) now'.left in
      let back : t ≡ false → eqb b v ≡ true → now'.linked (a + 1) (b + 1) ≡ false =
      λ f q. ap (λ x. now'.linked (a + 1) (x + 1)) (eqb-true b v q) ∙ two_way_after price g two_way k (a + 1) (v + 1) ∙ f in
      grind (
        arith,
        row_after a b ha hb,
        row_v_at a ha l.0 l.1,
        row_is a b ha hb l.1,
        row_is v b hv hb live,
        agree t m (eqb b a) (eqb b v) (now'.linked (a + 1) (b + 1)) (now'.linked (v + 1) (b + 1)) back,
        member_neighbours then' (a + 1) (b + 1),
        member_kept (λ x. not (eqb x (picked price g k))) (b + 1) now'.left,
        eqb_next b v,
        eqb_next b a,
        goes,
      )

  -- the neighbours after the step, counted along the row
  counted : (a : ℕ) → a < n → gone_in nodes' a ≡ false → count_below (held' a) n ≡ degree then' (a + 1)
  counted a ha e = row_count n then' a nodes' (held' a) len' step_left (λ b h. step_rows a b ha h e)

  step_degrees : (a : ℕ) → a < n → gone_in nodes' a ≡ false → degree_in nodes' a ≡ degree then' (a + 1)
  step_degrees a ha e =
      let l = live_before a ha e in
      let count = count_below (joined_cell held v a) n in
      let new : degree_in nodes' a ≡ cond (held v a) count (degree_in marked a) = counts.degrees a ha ∙ ap (λ t. cond (t && held v a) count (degree_in marked a)) (lt-ltb a n ha) in
      let link = row_v_at a ha l.0 l.1 in
      elim (cases_Bool (held v a)) [
        | inl yes' ↦ grind (arith, new, yes', counted a ha e, count_same (joined_cell held v a) (held' a) n (λ b h. grind (arith, row_after a b ha h, yes')))
        | inr no' ↦
            (let un : now'.linked (v + 1) (a + 1) ≡ false = sym link ∙ no' in
            grind (arith, new, no', get_or-set_other nodes v a went blank l.0)
            ∙ stands.degrees a ha l.1
            ∙ sym (degree_stays now' (v + 1) (a + 1) un (two_way_after price g two_way k (a + 1) (v + 1) ∙ un))
            ∙ ap (λ x. length (filter (λ w. not (eqb w (a + 1)) && (now'.linked (a + 1) w || (now'.linked x (a + 1) && now'.linked x w))) (without x now'.left))) goes)
      ]

  -- a row that row v does not have stays
  row_stays : (a b : ℕ) → a < n → b < n → held v a ≡ false → held' a b ≡ held a b
  row_stays a b ha hb no' = grind (arith, row_after a b ha hb, no')

  -- row v has neither v nor a node that is gone
  pub row_v_own : held v v ≡ false
  row_v_own = row_is v v hv hv live ∙ grind (arith, nat_tests)

  row_v_gone : (j a : ℕ) → j < k → a < n → a + 1 ≡ picked price g j → held v a ≡ false
  row_v_gone j a l h q =
      let z : suc j + (k - suc j) ≡ k = omega arith in
      let o : occurs (picked price g j) (left_at price n linked k) ≡ 0 = grind (arith, z, gone_after price n linked j (k - suc j)) in
      grind (arith, row_is v a hv h live, q, member_none (picked price g j) now'.left o)

  step_went : (j a b : ℕ) → j < suc k → a + 1 ≡ picked price g j → b < n → held' a b ≡ member (b + 1) (neighbours (remaining price g j) (a + 1))
  step_went j a b l q hb =
      elim (cases_lt j k) [
        | inl early ↦
            (let ha : a < n = omega (arith, q, (label price n linked j (omega arith)).1) in
            row_stays a b ha hb (row_v_gone j a early ha q) ∙ stands.went j a b early q hb)
        | inr late ↦
            (let same : j ≡ k = omega arith in
            let at : a ≡ v = omega (arith, q, goes, ap (picked price g) same) in
            ap (λ x. held' x b) at ∙ row_stays v b hv hb row_v_own ∙ stands.rows v b hv hb live
            ∙ ap₂ (λ x y. member (b + 1) (neighbours (remaining price g x) (y + 1))) (sym same) (sym at))
      ]

  pub stands_more : Stands price n linked (k + 1) nodes' held' listed' (order ++ (v + 1) ∷ []) (places + (1 + degree_in nodes v))
  stands_more =
      let e : suc k ≡ k + 1 = omega arith in
      subst (λ j. Stands price n linked j nodes' held' listed' (order ++ (v + 1) ∷ []) (places + (1 + degree_in nodes v))) e (record {
        left = step_left;
        lists = drops ∙ ap₂ (λ x ls. without x ls) goes stands.lists;
        degrees = step_degrees;
        rows = step_rows;
        went = step_went;
        chosen = ap₂ (λ xs x. xs ++ x ∷ []) stands.chosen goes ∙ sym (map-range_with_len_more (λ j. picked price g j) 0 k k (omega arith)) ∙ ap (λ m. map (λ j. picked price g j) (range_with_len 0 m)) (sym e);
        sum = ap₂ (λ x y. x + (1 + y)) stands.sum (stands.degrees v hv live ∙ ap (degree now') goes);
      })
