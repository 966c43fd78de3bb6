-- As many different labels of 1 to n as there are: n at most.
use Rattle.std.proofs.Common.{◌≡◌, ℕ, ◌+◌, ◌<◌, ◌≤◌, false, eqb, List, ◌∷◌, length, sym, ◌∙◌, ⊎_elim, arith}
use Rattle.std.specs.List.{list_any, IsDistinct}
use Rattle.std.proofs.ByRecursion.{All-from_get_or}
use Rattle.std.proofs.lemmas.List.Elements as elements
use Rattle.std.proofs.lemmas.List.Folds.{list_any_none}
use Rattle.std.proofs.lemmas.Map.Keys.{IsDistinct-from_apart}
use Rattle.std.proofs.lemmas.Map.Steps.{length-le_from_distinct_below}
use Rattle.std.proofs.lemmas.Grind.{get_or_default_zero}
use Rattle.std.proofs.lemmas.Bool.{cases_lt, ne_eqb, or_from, both_ways}
use Rattle.sheet.specs.Patterns.{OrderLabels, OrderOnce}

beyond : (n q : ℕ) (order : List ℕ) → OrderLabels n order → n < q → list_any (eqb q) order ≡ false
beyond n q order labels g = list_any_none (eqb q) order (elements.All-from_get_or (λ x. eqb q x ≡ false) order 0 (λ i h. ne_eqb q _ (λ e. omega (arith, (labels i h).1, e))))

distinct : (n : ℕ) (order : List ℕ) → OrderLabels n order → OrderOnce order → IsDistinct eqb (0 ∷ order)
unfolding IsDistinct
distinct n order labels once =
    (All-from_get_or (λ x. eqb 0 x ≡ false) order 0 (λ i h. ne_eqb 0 _ (λ e. omega (arith, (labels i h).0, e))), IsDistinct-from_apart eqb order (λ i j d l h. ne_eqb _ _ (λ e. once i j (l, h, sym (get_or_default_zero order i d (omega arith)) ∙ e ∙ get_or_default_zero order j d h))))

-- with 0, which is no label, they are different numbers below n + 1
pub order_fits : (n : ℕ) (order : List ℕ) → OrderLabels n order → OrderOnce order → length order ≤ n
order_fits n order labels once =
    let fits = length-le_from_distinct_below (0 ∷ order) (n + 1)
    (distinct n order labels once)
    (λ q t. ⊎_elim (λ l. l) (λ g. absurd (both_ways _ (or_from _ _ (ne_eqb q 0 (λ e. omega arith)) (beyond n q order labels (omega arith))) t)) (cases_lt q (n + 1))) in
    omega arith
