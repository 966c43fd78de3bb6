-- Where a column of a plan stands, and what its rows are.
use Rattle.std.proofs.Common.{◌≡◌, ℕ, zero, suc, ◌+◌, ◌-◌, ◌<◌, ◌≤◌, List, [], ◌∷◌, length, get_or, Some, None, Ok, Err, Result, refl, ap, inl, inr, arith, MatchResult}
use Rattle.std.proofs.lemmas.List.Edits.{length-between, get_or-between}
use Rattle.std.specs.List.Sorted.{IsBinarySearchResult}
use Rattle.std.proofs.lemmas.List.Sorted.{searched}
use Rattle.std.proofs.lemmas.Bool.{cases_lt}
use Rattle.std.proofs.lemmas.Bool.Decides.{nat_tests}
use Rattle.plan.specs.Lookups.{size_in, start_in, rows_in, index_from}
use Rattle.plan.specs.Planned.{Arrays, Keeps}
use Rattle.plan.specs.Positions.{Position}
use Rattle.std.specs.Ordering.{nat_cmp}

-- the starts rise: m columns on, by at least m
pub starts_rise : (n : ℕ) (starts : List ℕ) → ((k : ℕ) → k < n → get_or starts k 0 < get_or starts (k + 1) 0) → (k m : ℕ) → k + m ≤ n → get_or starts k 0 + m ≤ get_or starts (k + m) 0
starts_rise n starts h k zero l = grind arith
starts_rise n starts h k (suc m) l = grind (arith, starts_rise n starts h k m (omega arith), h (k + m) (omega arith))

pub starts_ascend : (a : Arrays) → Keeps a → (j k : ℕ) → 0 < j → j ≤ k → k ≤ size_in a + 1 → start_in a j ≤ start_in a k
starts_ascend a keeps j k l h u =
    grind (arith, starts_rise (size_in a) a.starts keeps.starting.2 (j - 1) (k - j) (omega arith))

-- the row at a place
abbrev pub row_at : Arrays → ℕ → ℕ
row_at a q = get_or a.rows q 0

module _ (a : Arrays) (k : ℕ) (p : Position a k) where
  pub column_some : start_in a k < start_in a (k + 1)
  column_some = grind (arith, p.low, p.keeps.starting.2 (k - 1) (omega (arith, p.low, p.high)))

  pub column_ends : start_in a (k + 1) ≤ length a.rows
  column_ends = grind (arith, starts_ascend a p.keeps (k + 1) (size_in a + 1) (omega arith) (omega (arith, p.high)) (omega arith), p.keeps.starting.1)

  pub head : row_at a (start_in a k) ≡ k
  head = omega (arith, p.keeps.headed (k - 1) (omega (arith, p.low, p.high)), p.low)

  rising_by : (q m : ℕ) → start_in a k ≤ q → q + m < start_in a (k + 1) → row_at a q + m ≤ row_at a (q + m)
  rising_by q zero l h = grind arith
  rising_by q (suc m) l h =
      let more : q + m + 1 < get_or a.starts (k - 1 + 1) 0 = grind (arith, p.low, h) in
      grind (arith, rising_by q m l (omega arith), p.keeps.rising (k - 1) (q + m) (omega (arith, p.low, p.high)) (omega arith, more))

  -- the rows of a column ascend
  pub rising : (q t : ℕ) → start_in a k ≤ q → q < t → t < start_in a (k + 1) → row_at a q < row_at a t
  rising q t l h u = grind (arith, rising_by q (t - q) l (omega arith))

  -- and past the diagonal they lie beyond it
  pub row_past : (q : ℕ) → start_in a k < q → q < start_in a (k + 1) → k < row_at a q
  row_past q l h = omega (arith, rising (start_in a k) q (omega arith) l h, head)

  pub row_position : (q : ℕ) → start_in a k < q → q < start_in a (k + 1) → Position a (row_at a q)
  row_position q l h = record {
    keeps = p.keeps;
    low = omega (arith, row_past q l h);
    high = p.keeps.within q (omega (arith, column_ends));
  }

  -- the rows below the diagonal, as a list
  pub rows_long : length (rows_in a k) ≡ start_in a (k + 1) - (start_in a k + 1)
  rows_long = length-between a.rows (start_in a k + 1) (start_in a (k + 1)) column_ends

  pub row_there : (i : ℕ) → i < length (rows_in a k) → get_or (rows_in a k) i 0 ≡ row_at a (start_in a k + 1 + i)
  row_there i h = get_or-between a.rows (start_in a k + 1) (start_in a (k + 1)) i 0 (omega (arith, rows_long))

  pub rows_above : (i : ℕ) → i < length (rows_in a k) → (k < get_or (rows_in a k) i 0) × (get_or (rows_in a k) i 0 ≤ size_in a)
  rows_above i h =
      let more : start_in a k + 1 + i < start_in a (k + 1) = omega (arith, rows_long) in (
        omega (arith, row_past (start_in a k + 1 + i) (omega arith) more, row_there i h),
        omega (arith, (row_position (start_in a k + 1 + i) (omega arith) more).high, row_there i h),
      )

  pub rows_rise : (i j : ℕ) → i < j → j < length (rows_in a k) → get_or (rows_in a k) i 0 < get_or (rows_in a k) j 0
  rows_rise i j l h =
      omega (
        arith,
        rising (start_in a k + 1 + i) (start_in a k + 1 + j) (omega arith) (omega arith) (omega (arith, rows_long)),
        row_there i (omega arith),
        row_there j h,
      )

-- the place of an entry of a list that rises
pub index_found : (xs : List ℕ) (m i k : ℕ) → ((x y : ℕ) → x < y → y < length xs → get_or xs x 0 < get_or xs y 0) → k < length xs → get_or xs k 0 ≡ i → index_from m xs i ≡ Some (m + k)
index_found [] m i k rises h e = absurd (omega (arith, h))
index_found (x ∷ xs) m i zero rises h e = grind (arith, nat_tests, e)
index_found (x ∷ xs) m i (suc k) rises h e =
    grind (arith, nat_tests, e, rises 0 (suc k) (omega arith) h, index_found xs (m + 1) i k (λ a b l u. rises (suc a) (suc b) (omega arith) (omega arith)) (omega arith) e)

pub index_none : (xs : List ℕ) (m i : ℕ) → ((k : ℕ) → k < length xs → get_or xs k 0 ≡ i → ⊥) → index_from m xs i ≡ None
index_none [] m i h = refl
index_none (x ∷ xs) m i h = grind (arith, nat_tests, h 0, index_none xs (m + 1) i (λ k l. h (suc k) (omega arith)))

-- what a search of the rows of a column finds
pub searched_in : (rows : List ℕ) (i first : ℕ) (r : Result ℕ ℕ) → ((x y : ℕ) → x < y → y < length rows → get_or rows x 0 < get_or rows y 0) → IsBinarySearchResult (λ y. nat_cmp y i) rows r
    → MatchResult r (λ k. index_from (first + 1) rows i ≡ Some (first + 1 + k)) (λ _. index_from (first + 1) rows i ≡ None)
searched_in rows i first r rises at = by r (searched rows i r at (λ x y l h. elim (cases_lt x y) [ inl q ↦ (let f = rises x y q h in omega arith) | inr q ↦ (let e : x ≡ y = omega arith in omega (arith, ap (λ z. get_or rows z 0) e)) ])) where
  by : (r : Result ℕ ℕ) → MatchResult r (λ k. (k < length rows) × (get_or rows k 0 ≡ i)) (λ k. (k ≤ length rows) × ((j : ℕ) → j < k → get_or rows j 0 < i) × ((j : ℕ) → k ≤ j → j < length rows → i < get_or rows j 0))
      → MatchResult r (λ k. index_from (first + 1) rows i ≡ Some (first + 1 + k)) (λ _. index_from (first + 1) rows i ≡ None)
  by (Ok k) f = index_found rows (first + 1) i k rises f.0 f.1
  by (Err k) f = index_none rows (first + 1) i (λ j h e. elim (cases_lt j k) [ inl q ↦ omega (arith, f.1 j q) | inr q ↦ omega (arith, f.2 j q h) ])
