-- A column is as long as the degree of its node when the node goes, so the places are counted as nodes go.
use Rattle.std.proofs.Common.{◌≡◌, ℕ, zero, suc, ◌+◌, ◌-◌, ◌<◌, ◌≤◌, Bool, cond, not, ◌&&◌, eqb, List, [], ◌∷◌, map, length, filter, sym, refl, ap, ◌∙◌, ap₂, arith}
use Rattle.std.specs.List.{range_with_len}
use Rattle.std.proofs.lemmas.List.{nil_from_length}
use Rattle.std.proofs.lemmas.Bool.{eq-eqb, ne_eqb, and_left}
use Rattle.std.proofs.lemmas.Bool.Decides.{nat_tests}
use Rattle.graph.specs.Columns.{in_column, column, columns, places}
use Rattle.graph.specs.Graphs.{start, degree}
use Rattle.graph.specs.Picking.{Price, remaining, picked}
use Rattle.plan.specs.Stages.{spent}
use Rattle.graph.proofs.Orders.{occurs, without, left_at, lengths, picked_among, apart}
use Rattle.plan.proofs.Steps.{kept_without}

pub without_none : (v : ℕ) (xs : List ℕ) → occurs v xs ≡ 0 → without v xs ≡ xs
without_none v [] h = refl
without_none v (x ∷ xs) h =
    grind (arith, nat_tests, h, without_none v xs)

-- one label taken out
kept_out : (P : ℕ → Bool) (v : ℕ) (xs : List ℕ) → occurs v xs ≡ 1 → length (filter P xs) ≡ cond (P v) 1 0 + length (filter P (without v xs))
kept_out P v [] h = absurd (omega (arith, h))
kept_out P v (x ∷ xs) h = grind (arith, nat_tests, h, kept_out P v xs, without_none v xs)

-- tests that agree on a range keep the same
pub kept_range : (test other : ℕ → Bool) (s m : ℕ) → ((i : ℕ) → s ≤ i → i < s + m → test i ≡ other i)
    → filter test (range_with_len s m) ≡ filter other (range_with_len s m)
kept_range test other s zero h = refl
kept_range test other s (suc m) h =
    ap₂ (λ t ls. cond t (s ∷ ls) ls) (h s (omega arith) (omega arith)) (kept_range test other (s + 1) m (λ i l u. h i (omega arith) (omega arith)))

module _ (price : Price) (n : ℕ) (linked : ℕ → ℕ → Bool) where
  -- the later positions go through what is left
  kept_left : (P : ℕ → Bool) (m i : ℕ) → i + m ≡ n
      → length (filter (λ x. P (picked price (start n linked) (x - 1))) (range_with_len (i + 1) m)) ≡ length (filter P (left_at price n linked i))
  kept_left P zero i h =
      let z : length (left_at price n linked i) ≡ 0 = omega (arith, lengths price n linked i (omega arith)) in
      sym (ap (λ ls. length (filter P ls)) (nil_from_length (left_at price n linked i) z))
  kept_left P (suc m) i h =
      let test : ℕ → Bool = λ x. P (picked price (start n linked) (x - 1)) in
      let e : i + 1 - 1 ≡ i = omega arith in
      let e' : suc i + 1 ≡ i + 1 + 1 = omega arith in
      let b : test (i + 1) ≡ P (picked price (start n linked) i) = ap (λ x. P (picked price (start n linked) x)) e in
      let c : length (filter test (range_with_len (i + 1 + 1) m)) ≡ length (filter P (left_at price n linked (suc i))) =
      ap (λ x. length (filter test (range_with_len x m))) (sym e') ∙ kept_left P m (suc i) (omega arith) in
      let d = kept_out P (picked price (start n linked) i) (left_at price n linked i) (picked_among price n linked i (omega arith)) in
      grind (arith, b, c, d)

  pub column_length : (j : ℕ) → j < n
      → length (column price (start n linked) n (j + 1)) ≡ degree (remaining price (start n linked) j) (picked price (start n linked) j)
  column_length j h =
      let g = remaining price (start n linked) j in
      let v = picked price (start n linked) j in
      let P : ℕ → Bool = λ w. not (eqb w v) && g.linked v w in
      let e : j + 1 - 1 ≡ j = omega arith in
      let e' : j + 1 + 1 ≡ suc j + 1 = omega arith in
      let e'' : n - (j + 1) ≡ n - suc j = omega arith in
      ap (λ (ls : List ℕ). length ls)
      (kept_range (λ i. in_column price (start n linked) (j + 1 - 1) (i - 1)) (λ x. P (picked price (start n linked) (x - 1))) (j + 1 + 1) (n - (j + 1))
      (λ i l u.
      ap (λ x. in_column price (start n linked) x (i - 1)) e
      ∙ sym (ap (λ t. not t && g.linked v (picked price (start n linked) (i - 1)))
      (ne_eqb (picked price (start n linked) (i - 1)) v (λ q. apart price n linked j (i - 1) (omega arith) (omega arith) (sym q))))))
      ∙ ap₂ (λ s m. length (filter (λ x. P (picked price (start n linked) (x - 1))) (range_with_len s m))) e' e''
      ∙ kept_left P (n - suc j) (suc j) (omega arith)
      ∙ ap (λ (ls : List ℕ). length ls) (kept_without P v g.left (and_left (not (eqb v v)) (g.linked v v) (ap not (eq-eqb v v refl))))

  places_from : (m j : ℕ) → j + m ≡ n
      → spent price (start n linked) j + places (map (column price (start n linked) n) (range_with_len (j + 1) m)) ≡ spent price (start n linked) n
  places_from zero j h = let e : j ≡ n = omega arith in omega (arith, ap (spent price (start n linked)) e)
  places_from (suc m) j h =
      let e : suc j + 1 ≡ j + 1 + 1 = omega arith in
      let i = places_from m (suc j) (omega arith) in
      let f : places (map (column price (start n linked) n) (range_with_len (suc j + 1) m)) ≡ places (map (column price (start n linked) n) (range_with_len (j + 1 + 1) m)) =
      ap (λ x. places (map (column price (start n linked) n) (range_with_len x m))) e in
      omega (arith, i, f, column_length j (omega arith))

  pub places_spent : places (columns price (start n linked) n) ≡ spent price (start n linked) n
  places_spent = let e = places_from n 0 (omega arith) in omega (arith, e)

  pub spent_grows : (k m : ℕ) → spent price (start n linked) k ≤ spent price (start n linked) (k + m)
  spent_grows k zero = let e : k ≡ k + 0 = omega arith in omega (arith, ap (spent price (start n linked)) e)
  spent_grows k (suc m) =
      let e : suc (k + m) ≡ k + suc m = omega arith in
      omega (arith, spent_grows k m, ap (spent price (start n linked)) e)
