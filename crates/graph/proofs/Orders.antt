-- Each label of 1 to n goes once: by counting how often a label stands among those that are left.
use Rattle.std.proofs.Common.{◌≡◌, ℕ, zero, suc, ◌+◌, ◌-◌, ◌<◌, ◌≤◌, Bool, true, false, not, ◌&&◌, eqb, ◌≢◌, ◌⊎◌, List, [], ◌∷◌, length, filter, sym, refl, ap, ◌∙◌, inl, inr, arith}
use Rattle.std.specs.List.{range_with_len}
use Rattle.std.proofs.lemmas.List.FromFn.{length-range_with_len}
use Rattle.std.proofs.lemmas.Bool.{ne_eqb, cases_eq}
use Rattle.std.proofs.lemmas.Bool.Decides.{nat_tests}
use Rattle.graph.specs.Columns.{member}
use Rattle.graph.specs.Graphs.{degree, start}
use Rattle.graph.specs.Picking.{Price, least, first_of, remaining, picked}
use Rattle.graph.specs.Theorems.{Permutes, HoldsNeighbours}

abbrev pub one_if : Bool → ℕ
one_if true = 1
one_if false = 0

-- recursion from the front, which computes where `count_by` takes a lemma for each step
abbrev pub occurs : ℕ → List ℕ → ℕ
occurs v [] = 0
occurs v (x ∷ xs) = one_if (eqb x v) + occurs v xs

abbrev pub without : ℕ → List ℕ → List ℕ
without v xs = filter (λ a. not (eqb a v)) xs

-- what goes is gone, the rest stays, and as many fewer are left
without_self : (v : ℕ) (xs : List ℕ) → occurs v (without v xs) ≡ 0
without_self v [] = refl
without_self v (x ∷ xs) = grind (arith, nat_tests, without_self v xs)

without_other : (v w : ℕ) (xs : List ℕ) → w ≢ v → occurs w (without v xs) ≡ occurs w xs
without_other v w [] ne = refl
without_other v w (x ∷ xs) ne = grind (arith, nat_tests, without_other v w xs ne)

without_length : (v : ℕ) (xs : List ℕ) → length (without v xs) + occurs v xs ≡ length xs
without_length v [] = refl
without_length v (x ∷ xs) = grind (arith, nat_tests, without_length v xs)

without_fewer : (v w : ℕ) (xs : List ℕ) → occurs w (without v xs) ≤ occurs w xs
without_fewer v w [] = omega arith
without_fewer v w (x ∷ xs) = grind (arith, nat_tests, without_fewer v w xs)

-- the pick is among those left
pub least_among : (p : ℕ → ℕ) (b : ℕ) (xs : List ℕ) → 0 < occurs (least p b xs) (b ∷ xs)
least_among p b [] = grind (arith, nat_tests)
least_among p b (x ∷ xs) = grind (arith, nat_tests, least_among p x xs, least_among p b xs)

pub first_among : (p : ℕ → ℕ) (xs : List ℕ) → 0 < length xs → 0 < occurs (first_of p xs) xs
first_among p [] h = absurd (omega (arith, h))
first_among p (x ∷ xs) h = least_among p x xs

-- at the start
pub counting_range : (v a n : ℕ) → 0 < occurs v (range_with_len a n) → (a ≤ v) × (v < a + n)
counting_range v a zero h = absurd (omega (arith, h))
counting_range v a (suc n) h = grind (arith, nat_tests, counting_range v (a + 1) n)

counting_once : (v a n : ℕ) → occurs v (range_with_len a n) ≤ 1
counting_once v a zero = omega arith
counting_once v a (suc n) = grind (arith, nat_tests, counting_range v (a + 1) n, counting_once v (a + 1) n)

pub counting_within : (v a n : ℕ) → a ≤ v → v < a + n → 0 < occurs v (range_with_len a n)
counting_within v a zero l h = absurd (omega arith)
counting_within v a (suc n) l h = grind (arith, nat_tests, counting_within v (a + 1) n)

pub counting_outside : (v a n : ℕ) → a + n ≤ v → occurs v (range_with_len a n) ≡ 0
counting_outside v a n h = grind (arith, counting_range v a n)

none_left : (v : ℕ) (xs : List ℕ) → length xs ≡ 0 → occurs v xs ≡ 0
none_left v [] e = refl
none_left v (x ∷ xs) e = absurd (omega (arith, e))

module _ (price : Price) (n : ℕ) (linked : ℕ → ℕ → Bool) where
  -- the labels left when k are gone, and the one that goes then
  abbrev pub left_at : ℕ → List ℕ
  left_at k = (remaining price (start n linked) k).left

  abbrev goes : ℕ → ℕ
  goes = picked price (start n linked)

  fewer : (v k m : ℕ) → occurs v (left_at (k + m)) ≤ occurs v (left_at k)
  fewer v k zero = let e : k + 0 ≡ k = omega arith in omega (arith, ap (λ x. occurs v (left_at x)) e)
  fewer v k (suc m) =
      let e : k + suc m ≡ suc (k + m) = omega arith in
      omega (arith, ap (λ x. occurs v (left_at x)) e, without_fewer (goes (k + m)) v (left_at (k + m)), fewer v k m)

  from_start : (v k : ℕ) → occurs v (left_at k) ≤ occurs v (range_with_len 1 n)
  from_start v k = let e : 0 + k ≡ k = omega arith in omega (arith, ap (λ x. occurs v (left_at x)) e, fewer v 0 k)

  once : (v k : ℕ) → occurs v (left_at k) ≤ 1
  once v k = omega (arith, from_start v k, counting_once v 1 n)

  picked_left : (k : ℕ) → 0 < length (left_at k) → 0 < occurs (goes k) (left_at k)
  picked_left k = first_among (λ v. price v (degree (remaining price (start n linked) k) v)) (left_at k)

  -- k have gone
  pub lengths : (k : ℕ) → k ≤ n → length (left_at k) + k ≡ n
  lengths zero h = omega (arith, length-range_with_len 1 n)
  lengths (suc k) h = omega (arith, lengths k, picked_left k, without_length (goes k) (left_at k), once (goes k) k)

  pub picked_among : (k : ℕ) → k < n → occurs (goes k) (left_at k) ≡ 1
  picked_among k h = omega (arith, lengths k, picked_left k, once (goes k) k)

  -- who went is not left, at any later position
  pub gone_after : (k m : ℕ) → occurs (goes k) (left_at (suc k + m)) ≡ 0
  gone_after k m = omega (arith, without_self (goes k) (left_at k), fewer (goes k) (suc k) m)

  -- no label goes twice
  pub apart : (k j : ℕ) → k < j → j < n → goes k ≡ goes j → ⊥
  apart k j l h e =
      let m : suc k + (j - suc k) ≡ j = omega arith in
      omega (
        arith,
        ap (λ x. occurs (goes k) (left_at x)) (sym m) ∙ gone_after k (j - suc k),
        ap (λ x. occurs x (left_at j)) e ∙ picked_among j h,
      )

  -- what goes is a label of 1 to n
  pub label : (k : ℕ) → k < n → (1 ≤ goes k) × (goes k ≤ n)
  label k h = omega (arith, from_start (goes k) k, picked_among k h, counting_range (goes k) 1 n)

  -- a label has gone by position k, or is left
  went : (v : ℕ) → 1 ≤ v → v ≤ n → (k : ℕ) → ((m : ℕ) × (m < k) × (goes m ≡ v)) ⊎ (0 < occurs v (left_at k))
  went v l h zero = inr (counting_within v 1 n (omega arith) (omega arith))
  went v l h (suc k) =
      elim (went v l h k) [
        | inl w ↦ inl (w.0, omega (arith, w.1), w.2)
        | inr o ↦
            elim (cases_eq v (goes k)) [
              | inl e ↦ inl (k, omega arith, sym e)
              | inr ne ↦ inr (omega (arith, without_other (goes k) v (left_at k) ne))
            ]
      ]

  -- each label goes
  pub position : (v : ℕ) → 1 ≤ v → v ≤ n → (m : ℕ) × (m < n) × (goes m ≡ v)
  position v l h = elim (went v l h n) [ inl w ↦ w | inr o ↦ absurd (omega (arith, none_left v (left_at n), lengths n)) ]

pub permutes : (price : Price) (n : ℕ) (linked : ℕ → ℕ → Bool) → Permutes price n linked
permutes price n linked = record { labels = label price n linked; once = apart price n linked; all = position price n linked }

pub member_from : (v : ℕ) (xs : List ℕ) → 0 < occurs v xs → member v xs ≡ true
member_from v [] h = absurd (omega (arith, h))
member_from v (x ∷ xs) h = grind (arith, nat_tests, member_from v xs)

pub member_none : (v : ℕ) (xs : List ℕ) → occurs v xs ≡ 0 → member v xs ≡ false
member_none v [] h = refl
member_none v (x ∷ xs) h = grind (arith, nat_tests, member_none v xs)

pub member_kept : (test : ℕ → Bool) (v : ℕ) (xs : List ℕ) → member v (filter test xs) ≡ (member v xs && test v)
member_kept test v [] = refl
member_kept test v (x ∷ xs) = grind (arith, nat_tests, member_kept test v xs)

pub holds_neighbours : (price : Price) (n : ℕ) (linked : ℕ → ℕ → Bool) → HoldsNeighbours price n linked
holds_neighbours price n linked k i l h =
    let g = remaining price (start n linked) k in
    let v = picked price (start n linked) k in
    let w = picked price (start n linked) i in
    let m : k + (i - k) ≡ i = omega arith in
    let o : 0 < occurs w g.left =
    omega (arith, ap (λ x. occurs w (left_at price n linked x)) m, fewer price n linked w k (i - k), picked_among price n linked i h) in
    let ne : eqb w v ≡ false = ne_eqb w v (λ e. apart price n linked k i l h (sym e)) in
    sym (member_kept (λ a. not (eqb a v) && g.linked v a) w g.left
    ∙ ap (λ b. b && (not (eqb w v) && g.linked v w)) (member_from w g.left o)
    ∙ ap (λ b. not b && g.linked v w) ne)
