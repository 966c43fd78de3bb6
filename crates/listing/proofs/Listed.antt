-- The listing of the arrays that the definitions give.
use Rattle.std.proofs.Common.{◌≡◌, ℕ, ◌+◌, ◌<◌, Bool, List, [], ◌∷◌, ◌++◌, map, refl, ap, ◌∙◌, ap₂, arith}
use Rattle.std.specs.List.{range_with_len, flat_map, AllByRecursion as All}
use Rattle.graph.specs.Columns.{label_at, column}
use Rattle.graph.specs.Graphs.{Graph, start}
use Rattle.graph.specs.Picking.{Price}
use Rattle.plan.specs.Lookups.{label_in, rows_in, parent_in}
use Rattle.plan.specs.Planned.{Arrays, arrays_for, place_count}
use Rattle.plan.specs.Subject.{Answers}
use Rattle.plan.proofs.Subjects.{answers}
use Rattle.listing.specs.Texts.{line_text, line_in, head_text, listing_text, line_for, plan_text, ListsPlan}
use Rattle.listing.proofs.Defined.{joined_same, each_position, rows_all}

module _ (price : Price) (n : ℕ) (linked : ℕ → ℕ → Bool) where
  abbrev g : Graph
  g = start n linked

  abbrev a : Arrays
  a = arrays_for price n linked

  plan : Answers price n linked
  plan = answers price n linked

  -- a position that has its label
  abbrev Labelled : ℕ → Type 0
  Labelled i = label_in a i ≡ label_at price g i

  labels_are : (is : List ℕ) → All Labelled is → map (label_in a) is ≡ map (label_at price g) is
  labels_are [] h = refl
  labels_are (i ∷ is) h = ap₂ (λ x xs. x ∷ xs) h.0 (labels_are is h.1)

  line_is : (j : ℕ) → j < n → line_in a (j + 1) ≡ line_for price g n (j + 1)
  line_is j h =
      ap (λ x. line_text (j + 1) x (parent_in a (j + 1)) (map (label_in a) (rows_in a (j + 1)))) (plan.labels (j + 1) (omega arith) (omega arith))
      ∙ ap₂ (λ x xs. line_text (j + 1) (label_at price g (j + 1)) x xs)
      (plan.parents (j + 1) (omega arith) (omega arith))
      (ap (map (label_in a)) (plan.columns (j + 1) (omega arith) (omega arith))
      ∙ labels_are (column price g n (j + 1)) (rows_all price n linked Labelled (j + 1) (λ i l u. plan.labels i (omega arith) u)))

  listing_is : listing_text a ≡ plan_text price n linked
  listing_is =
      ap₂ (λ m p. head_text m p ++ flat_map (line_in a) (range_with_len 1 m)) plan.size plan.places
      ∙ ap (λ ls. head_text n (place_count price n linked) ++ ls)
      (joined_same (line_in a) (line_for price g n) n 1 (each_position n (λ k. line_in a k ≡ line_for price g n k) line_is))

pub lists_plan : ListsPlan
lists_plan price n linked = listing_is price n linked
