-- The tables before the first elimination.
use Rattle.std.proofs.Common.{◌≡◌, ℕ, zero, suc, ◌+◌, ◌<◌, false, not, ◌&&◌, eqb, List, [], ◌∷◌, map, length, get_or, refl, ap, ◌∙◌, arith}
use Rattle.std.specs.List.{range_with_len}
use Rattle.std.proofs.lemmas.List.FromFn.{get_or-map-range_with_len, length-map-range_with_len}
use Rattle.std.proofs.lemmas.Bool.Decides.{nat_tests}
use Rattle.graph.specs.Columns.{member}
use Rattle.graph.specs.Graphs.{start, neighbours}
use Rattle.graph.specs.Picking.{Price}
use Rattle.graph.proofs.Orders.{member_kept, member_from, counting_within}
use Rattle.nodeset.specs.Sets.{count_below}
use Rattle.sheet.specs.Patterns.{linked_in, LinkLabels, LinksJoin}
use Rattle.sheet.proofs.Places.{linked_outside}
use Rattle.plan.specs.declared.records.NodeRecord.{NodeRecord}
use Rattle.plan.specs.Stages.{Stands}
use Rattle.plan.specs.Tables.{Grid, Alone, Inside, blank, fresh_nodes, degree_in, labels}
use Rattle.plan.proofs.Counts.{row_count}
use Rattle.plan.proofs.Links.{itself}

labels_fresh : (degrees : ℕ → ℕ) (m a s : ℕ) → labels s (map (λ i. record { degree = degrees i; gone = false }) (range_with_len a m)) ≡ range_with_len s m
labels_fresh degrees zero a s = refl
labels_fresh degrees (suc m) a s = ap (λ (ls : List ℕ). s ∷ ls) (labels_fresh degrees m (a + 1) (s + 1))

module _ (n : ℕ) (links : List (ℕ × ℕ)) (held : Grid) (join : LinksJoin links) (labelled : LinkLabels n links)
    (shows : (a b : ℕ) → held a b ≡ linked_in links (a + 1) (b + 1)) where
  abbrev fresh : List NodeRecord
  fresh = fresh_nodes held n n

  pub fresh_length : length fresh ≡ n
  fresh_length = length-map-range_with_len (λ a. record { degree = count_below (held a) n; gone = false }) 0 n

  fresh_at : (a : ℕ) → a < n → get_or fresh a blank ≡ record { degree = count_below (held a) n; gone = false }
  fresh_at a h = get_or-map-range_with_len (λ a. record { degree = count_below (held a) n; gone = false }) 0 n a a blank h (omega arith)

  pub none_alone : Alone n held
  none_alone a h = shows a a ∙ itself links join (a + 1)

  pub none_outside : Inside n held
  none_outside a b h = shows a b ∙ linked_outside n links (a + 1) (b + 1) labelled (λ l. omega (arith, h, l.1.1))

  row_is : (a b : ℕ) → b < n → held a b ≡ member (b + 1) (neighbours (start n (linked_in links)) (a + 1))
  row_is a b hb =
      let linked = linked_in links in
      grind (arith, nat_tests, shows a b, ap (linked (a + 1)), itself links join (a + 1), member_kept (λ x. not (eqb x (a + 1)) && linked (a + 1) x) (b + 1) (range_with_len 1 n), member_from (b + 1) (range_with_len 1 n) (counting_within (b + 1) 1 n (omega arith) (omega arith)))

  pub stands_none : (price : Price) (nodes : List NodeRecord) (listed order : List ℕ) → nodes ≡ fresh → listed ≡ range_with_len 1 n → order ≡ [] → Stands price n (linked_in links) 0 nodes held listed order 0
  stands_none price nodes listed order en el eo =
      let left : labels 1 nodes ≡ range_with_len 1 n = ap (labels 1) en ∙ labels_fresh (λ a. count_below (held a) n) n 0 1 in
      record {
        left = left;
        lists = el;
        degrees = λ a h f.
            ap (λ rs. degree_in rs a) en ∙ ap (λ (r : NodeRecord). r.degree) (fresh_at a h)
            ∙ row_count n (start n (linked_in links)) a nodes (held a) (ap (λ rs. length rs) en ∙ fresh_length) left (λ b k. row_is a b k);
        rows = λ a b ha hb f. row_is a b hb;
        went = λ j a b l q h. absurd (omega (arith, l));
        chosen = eo;
        sum = refl;
      }
