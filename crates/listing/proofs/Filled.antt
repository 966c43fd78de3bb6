-- The fill of the arrays that the definitions give.
use Rattle.std.proofs.Common.{◌≡◌, ℕ, suc, ◌+◌, ◌<◌, Bool, true, false, cond, not, List, [], ◌∷◌, map, length, get_or, filter, refl, ap, ◌∙◌, ap₂, arith}
use Rattle.std.specs.List.{range_with_len, flat_map}
use Rattle.std.proofs.ByRecursion.{All-get_or}
use Rattle.graph.specs.Columns.{label_at, column, fill_of, fill}
use Rattle.graph.specs.Graphs.{Graph, start}
use Rattle.graph.specs.Picking.{Price}
use Rattle.plan.specs.Laid.{sheet_link}
use Rattle.plan.specs.Lookups.{label_in}
use Rattle.plan.specs.Planned.{Arrays, arrays_for}
use Rattle.plan.specs.Subject.{Answers}
use Rattle.plan.proofs.Subjects.{answers}
use Rattle.listing.specs.Fills.{unlinked, labels_at, column_fill, fill_pairs, ListsFill}
use Rattle.listing.proofs.Defined.{joined_same, each_position, rows_all, start_is, span_is, row_is, mark_is}

-- numbers from s on, kept by a test and mapped, beside a list that is kept and mapped
module _ {X : Type 0} (f : ℕ → X) (test : ℕ → Bool) (h : ℕ → X) (keep : ℕ → Bool) where
  kept_step : (s x : ℕ) (ks xs : List ℕ) (t : Bool) → f s ≡ h x → map f ks ≡ map h xs → map f (cond t (s ∷ ks) ks) ≡ map h (cond t (x ∷ xs) xs)
  kept_step s x ks xs true e r = ap₂ (λ y ys. y ∷ ys) e r
  kept_step s x ks xs false e r = r

  kept_beside : (xs : List ℕ) (s : ℕ) → ((i : ℕ) → i < length xs → (f (s + i) ≡ h (get_or xs i 0)) × (test (s + i) ≡ keep (get_or xs i 0)))
      → map f (filter test (range_with_len s (length xs))) ≡ map h (filter keep xs)
  kept_beside [] s e = refl
  kept_beside (x ∷ xs) s e =
      let z : s ≡ s + 0 = omega arith in
      let here = e 0 (omega arith) in
      let ks = filter test (range_with_len (s + 1) (length xs)) in
      let rest : map f ks ≡ map h (filter keep xs) =
      kept_beside xs (s + 1) (λ i l.
      let q : s + 1 + i ≡ s + suc i = omega arith in
      let there = e (suc i) (omega arith) in
      (ap f q ∙ there.0, ap test q ∙ there.1)) in
      ap (λ t. map f (cond t (s ∷ ks) ks)) (ap test z ∙ here.1) ∙ kept_step s x ks (filter keep xs) (keep x) (ap f z ∙ here.0) rest

module _ (price : Price) (n : ℕ) (linked : ℕ → ℕ → Bool) where
  abbrev g : Graph
  g = start n linked

  abbrev a : Arrays
  a = arrays_for price n linked

  plan : Answers price n linked
  plan = answers price n linked

  -- a position that has its label
  abbrev Labelled : ℕ → Type 0
  Labelled i = label_in a i ≡ label_at price g i

  labels_are : (j i : ℕ) → j < n → i < length (column price g n (j + 1)) → labels_at a (j + 1) (get_or a.starts j 0 + 1 + i) ≡ (label_at price g (j + 1), label_at price g (get_or (column price g n (j + 1)) i 0))
  labels_are j i h l =
      ap₂ (λ x y. (x, y)) (plan.labels (j + 1) (omega arith) (omega arith))
      (ap (label_in a) (row_is price n linked j h i l)
      ∙ All-get_or Labelled (column price g n (j + 1)) i 0 l (rows_all price n linked Labelled (j + 1) (λ x u v. plan.labels x (omega arith) v)))

  column_fill_is : (j : ℕ) → j < n → column_fill a (j + 1) ≡ fill_of price g n (j + 1)
  column_fill_is j h =
      ap₂ (λ s m. map (labels_at a (j + 1)) (filter (unlinked a) (range_with_len (s + 1) m))) (start_is price n linked j h) (span_is price n linked j h)
      ∙ kept_beside (labels_at a (j + 1)) (unlinked a) (λ i. (label_at price g (j + 1), label_at price g i)) (λ i. not (sheet_link price g (j + 1) i))
      (column price g n (j + 1)) (get_or a.starts j 0 + 1) (λ i l. (labels_are j i h l, ap not (mark_is price n linked j h i l)))

  fill_is : fill_pairs a ≡ fill price g n
  fill_is =
      ap (λ m. flat_map (column_fill a) (range_with_len 1 m)) plan.size
      ∙ joined_same (column_fill a) (fill_of price g n) n 1 (each_position n (λ k. column_fill a k ≡ fill_of price g n k) column_fill_is)

pub lists_fill : ListsFill
lists_fill price n linked = fill_is price n linked
