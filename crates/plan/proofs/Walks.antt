-- Steps of the walks over columns.
use Rattle.std.proofs.Common.{◌≡◌, ℕ, zero, suc, ◌+◌, ◌-◌, ◌<◌, ◌≤◌, List, [], ◌∷◌, ◌++◌, length, get_or, drop, sym, refl, ap, ◌∙◌, ap₂, arith, length-append, length-drop}
use Rattle.std.specs.List.{range_with_len}
use Rattle.std.proofs.lemmas.List.{drop_more, length-map}
use Rattle.std.proofs.lemmas.List.FromFn.{length-range_with_len, map-range_with_len_more}
use Rattle.plan.specs.declared.columns.Column.{Column}
use Rattle.plan.specs.declared.plans.Plan.{Plan}
use Rattle.plan.specs.Lookups.{size_in}
use Rattle.plan.specs.Planned.{Arrays}
use Rattle.plan.specs.Positions.{Positions}
use Rattle.plan.specs.Walks.{column_is, columns_at}

pub columns_first : (p : Plan) (start end next : ℕ) → start < end → next ≡ start + 1
    → columns_at p (range_with_len start (end - start)) ≡ (p, start) ∷ columns_at p (range_with_len next (end - next))
columns_first p start end next h is =
    let count : end - start ≡ suc (end - next) = omega arith in grind (arith, is, ap (λ m. columns_at p (range_with_len start m)) count)

pub columns_last : (p : Plan) (start end last : ℕ) → start < end → end ≡ last + 1
    → columns_at p (range_with_len start (end - start)) ≡ columns_at p (range_with_len start (last - start)) ++ (p, last) ∷ []
columns_last p start end last h is =
    let step = map-range_with_len_more {X = Plan × ℕ} (λ k. (p, k)) start (last - start) last (omega arith) in grind (arith, is, step)

-- the first of some positions, and the others
pub positions_more : (a : Arrays) (k : ℕ) (ks : List ℕ) → Positions a (k ∷ ks) → (0 < k) × (k ≤ size_in a) × Positions a ks
positions_more a k ks h = let f = h 0 (omega arith) in (f.0, f.1, λ i l. h (suc i) (omega arith))

cons_same : {X : Type 0} (x y : X) (xs ys : List X) → x ∷ xs ≡ y ∷ ys → (x ≡ y) × (xs ≡ ys)
cons_same x y xs ys e = ((cc), (cc))

-- the same at the other end
push_same : {X : Type 0} (xs ys : List X) (x y : X) → xs ++ x ∷ [] ≡ ys ++ y ∷ [] → (xs ≡ ys) × (x ≡ y)
push_same [] [] x y e = (refl, (cc))
push_same [] (b ∷ ys) x y e = absurd (omega (arith, simp length-append at (ap length e)))
push_same (a ∷ xs) [] x y e = absurd (omega (arith, simp length-append at (ap length e)))
push_same (a ∷ xs) (b ∷ ys) x y e =
    let one : a ≡ b = cc in
    let others : xs ++ x ∷ [] ≡ ys ++ y ∷ [] = cc in
    let f = push_same xs ys x y others in
    (ap₂ (λ z zs. z ∷ zs) one f.0, f.1)

-- ---- what a step tells of a column, where columns k, k + 1, .. of a plan were left, m of them

module _ (p : Plan) (c : Column) (left : List (Plan × ℕ)) where
  pub columns_more : (k m : ℕ) → columns_at p (range_with_len k m) ≡ column_is c ∷ left
      → (0 < m) × (c.plan.now ≡ p) × (c.position ≡ k) × (left ≡ columns_at p (range_with_len (k + 1) (m - 1)))
  columns_more k zero e = absurd (omega (arith, ap length e))
  columns_more k (suc m) e =
      let f = cons_same (p, k) (column_is c) (columns_at p (range_with_len (k + 1) m)) left e in
      let less : m ≡ suc m - 1 = omega arith in
      (omega arith, sym (ap (λ x. x.0) f.0), sym (ap (λ x. x.1) f.0), sym f.1 ∙ ap (λ x. columns_at p (range_with_len (k + 1) x)) less)

  pub columns_back : (k m : ℕ) → columns_at p (range_with_len k m) ≡ left ++ column_is c ∷ []
      → (0 < m) × (c.plan.now ≡ p) × (c.position ≡ k + (m - 1)) × (left ≡ columns_at p (range_with_len k (m - 1)))
  columns_back k zero e = absurd (omega (arith, simp length-append at (ap length e)))
  columns_back k (suc m) e =
      let count : suc m ≡ m + 1 = omega arith in
      let less : m ≡ suc m - 1 = omega arith in
      let f = push_same (columns_at p (range_with_len k m)) left (p, k + m) (column_is c)
      (sym (ap (λ x. columns_at p (range_with_len k x)) count ∙ map-range_with_len_more (λ i. (p, i)) k m (k + m) refl) ∙ e) in (
        omega arith,
        sym (ap (λ x. x.0) f.1),
        sym (ap (λ x. x.1) f.1) ∙ ap (λ x. k + x) less,
        sym f.0 ∙ ap (λ x. columns_at p (range_with_len k x)) less,
      )

  -- where i of some positions were passed
  pub later_more : (ks : List ℕ) (i : ℕ) → i < length ks → columns_at p (drop i ks) ≡ column_is c ∷ left
      → (c.plan.now ≡ p) × (c.position ≡ get_or ks i 0) × (left ≡ columns_at p (drop (i + 1) ks))
  later_more ks i h e =
      let f = cons_same (p, get_or ks i 0) (column_is c) (columns_at p (drop (i + 1) ks)) left (ap (columns_at p) (sym (drop_more ks i 0 h)) ∙ e) in
      (sym (ap (λ x. x.0) f.0), sym (ap (λ x. x.1) f.0), sym f.1)

pub columns_end : (p : Plan) (k m : ℕ) → columns_at p (range_with_len k m) ≡ [] → m ≡ 0
columns_end p k m e = omega (arith, simp (length-map, length-range_with_len) at (ap length e))

pub later_end : (p : Plan) (ks : List ℕ) (i : ℕ) → columns_at p (drop i ks) ≡ [] → length ks ≤ i
later_end p ks i e = omega (arith, simp (length-map, length-drop) at (ap length e))
