-- The label that goes is the one next label: least price, and of equal prices the lowest.
use Rattle.std.proofs.Common.{◌≡◌, ℕ, zero, suc, ◌+◌, ◌<◌, ◌≤◌, Bool, true, not, eqb, ◌⊎◌, List, [], ◌∷◌, filter, sym, subst, arith}
use Rattle.std.specs.List.{range_with_len}
use Rattle.std.proofs.lemmas.Bool.{cond_both, false≢true}
use Rattle.std.proofs.lemmas.Bool.Decides.{nat_tests}
use Rattle.graph.specs.Columns.{member}
use Rattle.graph.specs.Graphs.{start, degree}
use Rattle.graph.specs.Picking.{Price, least, first_of, next, remaining, picked}
use Rattle.graph.specs.Theorems.{IsNext, PicksNext}
use Rattle.graph.proofs.Orders.{left_at, lengths, first_among, member_from}

-- xs ascends, from above b on
abbrev Above : ℕ → List ℕ → Type 0
Above b [] = Unit {0}
Above b (x ∷ xs) = (b < x) × Above x xs

above_lower : (a b : ℕ) (xs : List ℕ) → a ≤ b → Above b xs → Above a xs
above_lower a b [] l h = tt
above_lower a b (x ∷ xs) l h = (omega (arith, h.0), h.1)

above_counting : (b a n : ℕ) → b < a → Above b (range_with_len a n)
above_counting b a zero l = tt
above_counting b a (suc n) l = (l, above_counting a (a + 1) n (omega arith))

above_kept : (test : ℕ → Bool) (b : ℕ) (xs : List ℕ) → Above b xs → Above b (filter test xs)
above_kept test b [] h = tt
above_kept test b (x ∷ xs) h =
    cond_both (test x) (x ∷ filter test xs) (filter test xs) (Above b) (λ _. (h.0, above_kept test x xs h.1))
    (λ _. above_kept test b xs (above_lower b x xs (omega (arith, h.0)) h.1))

-- v comes before w, or is w
abbrev Precedes : (ℕ → ℕ) → ℕ → ℕ → Type 0
Precedes p v w = (p v < p w) ⊎ ((p v ≡ p w) × (v ≤ w))

same_next : (p : ℕ → ℕ) (v w : ℕ) → Precedes p v w → Precedes p w v → v ≡ w
same_next p v w h k = grind arith

least_precedes : (p : ℕ → ℕ) (b : ℕ) (xs : List ℕ) → Above b xs → (w : ℕ) → member w (b ∷ xs) ≡ true → Precedes p (least p b xs) w
least_precedes p b [] h w e = grind (arith, nat_tests)
least_precedes p b (x ∷ xs) h w e =
    let past = least_precedes p x xs h.1 in
    let over = least_precedes p b xs (above_lower b x xs (omega (arith, h.0)) h.1) in
    grind (arith, nat_tests, past w, past x, over w, over b)

first_precedes : (p : ℕ → ℕ) (xs : List ℕ) → Above 0 xs → (w : ℕ) → member w xs ≡ true → Precedes p (first_of p xs) w
first_precedes p [] h w e = absurd (false≢true e)
first_precedes p (x ∷ xs) h w e = least_precedes p x xs h.1 w e

module _ (price : Price) (n : ℕ) (linked : ℕ → ℕ → Bool) where
  above_left : (k : ℕ) → Above 0 (left_at price n linked k)
  above_left zero = above_counting 0 1 n (omega arith)
  above_left (suc k) = above_kept (λ a. not (eqb a (picked price (start n linked) k))) 0 (left_at price n linked k) (above_left k)

  next_is : (k : ℕ) → k < n → IsNext price (remaining price (start n linked) k) (picked price (start n linked) k)
  next_is k h =
      let g = remaining price (start n linked) k in
      let p : ℕ → ℕ = λ v. price v (degree g v) in
      record {
        left = member_from (next price g) g.left (first_among p g.left (omega (arith, lengths price n linked k (omega arith))));
        least = first_precedes p g.left (above_left k);
      }

  pub picks_next : PicksNext price n linked
  picks_next k v h =
      let g = remaining price (start n linked) k in
      let x = next_is k h in (
        λ y. same_next (λ u. price u (degree g u)) v (picked price (start n linked) k) (y.least (picked price (start n linked) k) x.left) (x.least v y.left),
        λ e. subst (IsNext price g) (sym e) x,
      )
