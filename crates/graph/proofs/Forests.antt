-- The rows of a column are ancestors of its position.
use Rattle.std.proofs.Common.{◌≡◌, ℕ, zero, suc, ◌+◌, ◌-◌, ◌<◌, ◌≤◌, Bool, true, ◌&&◌, ◌⊎◌, List, [], ◌∷◌, filter, sym, refl, ◌∙◌, inl, inr, ⊎_elim, arith}
use Rattle.std.specs.List.{range_with_len}
use Rattle.std.proofs.lemmas.Bool.{or_right, and_from, cases_lt}
use Rattle.std.proofs.lemmas.Bool.Decides.{nat_tests}
use Rattle.graph.specs.Columns.{in_column, column, lowest, parent, ancestor, member}
use Rattle.graph.specs.Graphs.{start}
use Rattle.graph.specs.Picking.{Price}
use Rattle.graph.specs.Theorems.{MakesForest}
use Rattle.graph.proofs.Below.{any_here}
use Rattle.graph.proofs.Equations.{column_equation}
use Rattle.graph.proofs.Members.{member_column, row_between}

-- the lowest number of a range from a on that a test keeps, where it keeps i
abbrev Lowest : (ℕ → Bool) → ℕ → ℕ → ℕ → Type 0
Lowest test a i low = (a ≤ low) × (low ≤ i) × (test low ≡ true)

lowest_kept : (test : ℕ → Bool) (a m i : ℕ) → a ≤ i → i < a + m → test i ≡ true → Lowest test a i (lowest (filter test (range_with_len a m)))
lowest_kept test a zero i l u e = absurd (omega arith)
lowest_kept test a (suc m) i l u e = grind (arith, nat_tests, lowest_kept test (a + 1) m i)

lowest_member : (xs : List ℕ) → (lowest xs ≡ 0) ⊎ (member (lowest xs) xs ≡ true)
lowest_member [] = inl refl
lowest_member (x ∷ xs) = grind (arith, nat_tests)

module _ (price : Price) (n : ℕ) (linked : ℕ → ℕ → Bool) where
  abbrev rows : ℕ → List ℕ
  rows = column price (start n linked) n

  abbrev up : ℕ → ℕ
  up = parent price (start n linked) n

  above : (k : ℕ) → (up k ≡ 0) ⊎ (k < up k)
  above k = ⊎_elim inl (λ e. inr (row_between price n linked k (up k) e).0) (lowest_member (rows k))

  -- of two rows of one column, the higher is in the column of the lower
  rows_joined : (k p i : ℕ) → 1 ≤ k → k < p → p < i → i ≤ n → in_column price (start n linked) (k - 1) (p - 1) ≡ true → member i (rows k) ≡ true → member i (rows p) ≡ true
  rows_joined k p i l u v h e f =
      let both : ℕ → Bool = λ m. in_column price (start n linked) m (p - 1) && in_column price (start n linked) m (i - 1) in
      let here = and_from _ _ e (sym (member_column price n linked k i l (omega arith) h) ∙ f) in
      member_column price n linked p i (omega arith) v h ∙ column_equation price n linked (p - 1) (i - 1) ∙ or_right _ _ (any_here both (p - 1) (k - 1) (omega arith) here)

  climbs : (d k i : ℕ) → 1 ≤ k → i - k ≤ d → member i (rows k) ≡ true → (m : ℕ) × (ancestor price (start n linked) n m k ≡ i)
  climbs zero k i l b e = absurd (omega (arith, row_between price n linked k i e))
  climbs (suc d) k i l b e =
      let r = row_between price n linked k i e in
      let test : ℕ → Bool = λ j. in_column price (start n linked) (k - 1) (j - 1) in
      let low = lowest_kept test (k + 1) (n - k) i (omega (arith, r)) (omega (arith, r)) (sym (member_column price n linked k i l r.0 r.1) ∙ e) in
      ⊎_elim
      (λ (q : up k < i).
      let c = climbs d (up k) i (omega (arith, low)) (omega (arith, low, r)) (rows_joined k (up k) i l (omega (arith, low)) q r.1 low.2 e) in
      (suc c.0, c.1))
      (λ (q : i ≤ up k). let s : up k ≡ i = omega (arith, low) in (1, s))
      (cases_lt (up k) i)

pub makes_forest : (price : Price) (n : ℕ) (linked : ℕ → ℕ → Bool) → MakesForest price n linked
makes_forest price n linked = record { above = above price n linked; ancestors = λ k i l e. climbs price n linked (i - k) k i l (omega arith) e }
