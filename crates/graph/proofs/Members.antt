-- Which positions a column has.
use Rattle.std.proofs.Common.{◌≡◌, ℕ, zero, suc, ◌+◌, ◌-◌, ◌<◌, ◌≤◌, Bool, true, ◌&&◌, List, sym, ap, ◌∙◌, arith}
use Rattle.std.specs.List.{range_with_len}
use Rattle.std.proofs.lemmas.Bool.{and_parts, false≢true}
use Rattle.std.proofs.lemmas.Bool.Decides.{nat_tests}
use Rattle.graph.specs.Columns.{in_column, column, member}
use Rattle.graph.specs.Graphs.{start}
use Rattle.graph.specs.Picking.{Price}
use Rattle.graph.proofs.Orders.{member_from, member_kept, counting_within}

member_range : (v a n : ℕ) → member v (range_with_len a n) ≡ true → (a ≤ v) × (v < a + n)
member_range v a zero e = absurd (false≢true e)
member_range v a (suc n) e = grind (arith, nat_tests, member_range v (a + 1) n)

module _ (price : Price) (n : ℕ) (linked : ℕ → ℕ → Bool) (k i : ℕ) where
  abbrev joined : ℕ → Bool
  joined i = in_column price (start n linked) (k - 1) (i - 1)

  abbrev later : List ℕ
  later = range_with_len (k + 1) (n - k)

  -- of the later positions, those that the process joins
  pub member_column : 1 ≤ k → k < i → i ≤ n → member i (column price (start n linked) n k) ≡ joined i
  member_column l u h = member_kept joined i later ∙ ap (λ b. b && joined i) (member_from i later (counting_within i (k + 1) (n - k) (omega arith) (omega arith)))

  -- a row of column k lies above k, and at most at n
  pub row_between : member i (column price (start n linked) n k) ≡ true → (k < i) × (i ≤ n)
  row_between e = omega (arith, member_range i (k + 1) (n - k) (and_parts (member i later) (joined i) (sym (member_kept joined i later) ∙ e)).0)
