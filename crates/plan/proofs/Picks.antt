-- What the scan of the labels picks: a node that is left, and the one that the definition picks.
use Rattle.std.proofs.Common.{◌≡◌, ℕ, zero, suc, ◌+◌, ◌-◌, ◌<◌, ◌≤◌, Bool, false, List, [], ◌∷◌, length, get_or, sym, refl, ap, ◌∙◌, subst, ap₂, arith}
use Rattle.std.specs.List.{remove, IsFirstBest}
use Rattle.std.proofs.lemmas.Bool.{not-true}
use Rattle.std.proofs.lemmas.Bool.Decides.{nat_tests}
use Rattle.graph.specs.Columns.{member}
use Rattle.graph.specs.Graphs.{start, degree}
use Rattle.graph.specs.Picking.{Price, first_of, remaining, picked}
use Rattle.graph.proofs.Orders.{occurs, without, lengths, member_from, picked_among}
use Rattle.plan.specs.declared.records.NodeRecord.{NodeRecord}
use Rattle.plan.specs.Scan.{price_in, cheaper}
use Rattle.plan.specs.Stages.{Stands}
use Rattle.plan.specs.Tables.{Grid, gone_in, labels}
use Rattle.plan.proofs.Labels.{member_labels}
use Rattle.plan.proofs.Scans.{first_is, first_same}
use Rattle.plan.proofs.Spent.{without_none}

labels_within : (v s : ℕ) (rs : List NodeRecord) → 0 < occurs v (labels s rs) → (s ≤ v) × (v < s + length rs)
labels_within v s [] o = absurd (omega (arith, o))
labels_within v s (r ∷ rs) o = grind (arith, nat_tests, o, labels_within v (s + 1) rs)

-- the label of a node that is left
pub record Live (rs : List NodeRecord) (v : ℕ) : Type 0 where
  pub low : 0 < v
  pub high : v ≤ length rs
  pub live : gone_in rs (v - 1) ≡ false

live_in : (rs : List NodeRecord) (v : ℕ) → 0 < occurs v (labels 1 rs) → Live rs v
live_in rs v o =
    let w = labels_within v 1 rs o in
    let q : 1 + (v - 1) ≡ v = omega (arith, w.0) in
    record {
      low = omega (arith, w.0);
      high = omega (arith, w.1);
      live = not-true (gone_in rs (v - 1)) (sym (member_labels 1 rs (v - 1) (omega (arith, w.0, w.1))) ∙ ap (λ x. member x (labels 1 rs)) q ∙ member_from v (labels 1 rs) o);
    }

-- the element at an index is among the elements
occurs_at : (ls : List ℕ) (i : ℕ) → i < length ls → 0 < occurs (get_or ls i 0) ls
occurs_at [] i h = absurd (omega (arith, h))
occurs_at (x ∷ xs) zero h = grind (arith, nat_tests)
occurs_at (x ∷ xs) (suc i) h = omega (arith, occurs_at xs i (omega arith))

-- an element that occurs once is removed at its index
removed_once : (ls : List ℕ) (i v : ℕ) → i < length ls → get_or ls i 0 ≡ v → occurs v ls ≡ 1 → remove ls i ≡ without v ls
removed_once [] i v h e o = absurd (omega (arith, h))
removed_once (x ∷ xs) zero v h e o = grind (arith, nat_tests, e, o, without_none v xs)
removed_once (x ∷ xs) (suc i) v h e o = grind (arith, nat_tests, e, o, occurs_at xs i (omega arith), removed_once xs i v (omega arith) e)

module _ (price : Price) (n : ℕ) (linked : ℕ → ℕ → Bool) (k : ℕ) (nodes seen : List NodeRecord) (held : Grid) (listed shown order : List ℕ) (places : ℕ)
    (len : length nodes ≡ n) (more : k < n) (same : seen ≡ nodes) (shows : shown ≡ listed)
    (stands : Stands price n linked k nodes held listed order places) where
  -- the labels that are left are those of the nodes that are not gone
  live_listed : (v : ℕ) → 0 < occurs v listed → Live nodes v
  live_listed v o = live_in nodes v (subst (λ ls. 0 < occurs v ls) (stands.lists ∙ sym stands.left) o)

  prices : (v : ℕ) → 0 < occurs v listed → price_in price nodes v ≡ price v (degree (remaining price (start n linked) k) v)
  prices v o =
      let l = live_listed v o in
      grind (arith, l.low, stands.degrees (v - 1) (omega (arith, l.low, l.high, len)) l.live)

  pick_is : first_of (price_in price nodes) listed ≡ picked price (start n linked) k
  pick_is =
      first_same (price_in price nodes) (λ v. price v (degree (remaining price (start n linked) k) v)) listed prices
      ∙ ap (first_of (λ v. price v (degree (remaining price (start n linked) k) v))) stands.lists

  -- the label at the index that was found goes next, and leaves the others
  pub record Picked (i : ℕ) : Type 0 where
    pub label_is : get_or listed i 0 ≡ picked price (start n linked) k
    pub live : Live nodes (get_or listed i 0)
    pub drops : remove listed i ≡ without (get_or listed i 0) listed

  pub picks : (i : ℕ) → IsFirstBest (cheaper price seen) shown (length shown) i → Picked i
  picks i best =
      let f : IsFirstBest (cheaper price nodes) listed (length listed) i =
      subst (λ rs. IsFirstBest (cheaper price rs) listed (length listed) i) same (subst (λ ls. IsFirstBest (cheaper price seen) ls (length ls) i) shows best) in
      let is = first_is (price_in price nodes) listed i f ∙ pick_is in
      record {
        label_is = is;
        live = live_listed (get_or listed i 0) (occurs_at listed i f.0);
        drops = removed_once listed i (get_or listed i 0) f.0 refl (ap₂ (λ v ls. occurs v ls) is stands.lists ∙ picked_among price n linked k more);
      }

  pub picks_some : length shown ≡ 0 → ⊥
  picks_some e = omega (arith, e, ap (λ ls. length ls) shows, ap (λ ls. length ls) stands.lists, lengths price n linked k (omega arith), more)
