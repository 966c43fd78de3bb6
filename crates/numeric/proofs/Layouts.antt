-- Where the rows of a plan's columns stand, and what a table has there.
use Rattle.std.proofs.Common.{◌≡◌, ℕ, zero, suc, ◌+◌, ◌-◌, ◌<◌, ◌≤◌, Bool, true, false, ◌&&◌, eqb, ltb, leb, ◌⊎◌, List, [], ◌∷◌, length, get_or, take, drop, Some, None, sym, refl, ap, ◌∙◌, ap₂, inl, inr, arith}
use Rattle.std.specs.List.{between}
use Rattle.std.proofs.lemmas.List.Edits.{length-between, get_or-between}
use Rattle.std.proofs.lemmas.List.{drop_more, get_or-drop, get_or_read, length-drop}
use Rattle.std.proofs.lemmas.Bool.{cases_eq, cases_lt, cases_order, cases_Bool, and_from, and_parts, or_cases, or_left, or_right, cond-true, cond-false, lt-ltb, le-leb, ltb-true, leb-true, eqb-true, eq-eqb, both_ways}
use Rattle.graph.specs.Columns.{any_below}
use Rattle.graph.proofs.Below.{any_here}
use Rattle.plan.specs.Layout.{among_rows, holds, on_sheet}
use Rattle.plan.specs.Lookups.{size_in, start_in, rows_in, place_in, index_from}
use Rattle.plan.specs.Planned.{Arrays, Keeps}
use Rattle.plan.proofs.Spans.{starts_ascend, row_at, column_some, column_ends, head, rising, row_past, row_position, index_found, index_none}
use Rattle.square.specs.Plans.{place_at, number_at, matrix_of}
use Rattle.plan.specs.Positions.{Position}

-- q is the place of row i in column j
pub record Place (a : Arrays) (i j q : ℕ) : Type 0 where
  pub column : Position a j
  pub low : start_in a j ≤ q
  pub high : q < start_in a (j + 1)
  pub row : row_at a q ≡ i

-- ---- where columns stand

module _ (a : Arrays) (k : ℕ) (p : Position a k) where
  pub diagonal : Place a k k (start_in a k)
  diagonal = record { column = p; low = omega arith; high = column_some a k p; row = head a k p }

  -- column k lies before the column of each row below its diagonal
  pub target_past : (q : ℕ) → start_in a k < q → q < start_in a (k + 1) → start_in a (k + 1) ≤ start_in a (row_at a q)
  target_past q l h = starts_ascend a p.keeps (k + 1) (row_at a q) (omega arith) (omega (arith, row_past a k p q l h)) (omega (arith, (row_position a k p q l h).high))

-- a place is in one column only
pub same_column : (a : Arrays) (j k q : ℕ) → Position a j → Position a k → start_in a j ≤ q → q < start_in a (j + 1) → start_in a k ≤ q → q < start_in a (k + 1) → j ≡ k
same_column a j k q pj pk aj bj ak bk = elim (cases_order j k) [
  | inl e ↦ e
  | inr (inl l) ↦ absurd (omega (arith, starts_ascend a pj.keeps (j + 1) k (omega arith) (omega arith) (omega (arith, pk.high))))
  | inr (inr l) ↦ absurd (omega (arith, starts_ascend a pj.keeps (k + 1) j (omega arith) (omega arith) (omega (arith, pj.high))))
]

-- ---- the place of a row

-- where a list has a number, or that it has none
seek : (xs : List ℕ) (i : ℕ) → ((k : ℕ) × (k < length xs) × (get_or xs k 0 ≡ i)) ⊎ ((k : ℕ) → k < length xs → get_or xs k 0 ≡ i → ⊥)
seek [] i = inr (λ k h e. omega (arith, h))
seek (x ∷ xs) i = elim (cases_eq x i) [
  | inl e ↦ inl (0, omega arith, e)
  | inr ne ↦ elim (seek xs i) [
    | inl f ↦ inl (suc f.0, omega (arith, f.1), f.2)
    | inr none ↦ inr (λ k. by k none ne)
  ]
]
  where
    by : (k : ℕ) → ((k : ℕ) → k < length xs → get_or xs k 0 ≡ i → ⊥) → (x ≡ i → ⊥) → k < length (x ∷ xs) → get_or (x ∷ xs) k 0 ≡ i → ⊥
    by zero none ne h e = ne e
    by (suc k) none ne h e = none k (omega arith) e

module _ (a : Arrays) (j : ℕ) (p : Position a j) where
  column_length : length (between (start_in a j) (start_in a (j + 1)) a.rows) ≡ start_in a (j + 1) - start_in a j
  column_length = length-between a.rows (start_in a j) (start_in a (j + 1)) (column_ends a j p)

  column_at : (k : ℕ) → start_in a j + k < start_in a (j + 1) → get_or (between (start_in a j) (start_in a (j + 1)) a.rows) k 0 ≡ row_at a (start_in a j + k)
  column_at k h = get_or-between a.rows (start_in a j) (start_in a (j + 1)) k 0 h

  -- the diagonal and the rows of a column are the rows at its places
  pub column_is : j ∷ rows_in a j ≡ between (start_in a j) (start_in a (j + 1)) a.rows
  column_is =
      let some = column_some a j p in
      let e : start_in a (j + 1) - start_in a j ≡ suc (start_in a (j + 1) - (start_in a j + 1)) = omega arith in
      sym (
      ap₂ (λ m xs. take m xs) e (drop_more a.rows (start_in a j) 0 (omega (arith, column_ends a j p)))
      ∙ ap (λ x. x ∷ rows_in a j) (head a j p)
      )

pub find : (a : Arrays) → Keeps a → (i j : ℕ) → ((q : ℕ) × Place a i j q) ⊎ ((q : ℕ) → Place a i j q → ⊥)
find a keeps i j = elim (cases_lt 0 j) [
  | inr l ↦ inr (λ q t. omega (arith, t.column.low))
  | inl l ↦ elim (cases_lt (size_in a) j) [
    | inl h ↦ inr (λ q t. omega (arith, t.column.high))
    | inr h ↦ within (record { keeps = keeps; low = l; high = h })
  ]
]
  where
    within : Position a j → ((q : ℕ) × Place a i j q) ⊎ ((q : ℕ) → Place a i j q → ⊥)
    within p =
        let S = start_in a j in
        let T = start_in a (j + 1) in
        let long = column_length a j p in
        let some = column_some a j p in
        elim (seek (between S T a.rows) i) [
          | inl f ↦
              (let more : S + f.0 < T = omega (arith, f.1) in
              inl (S + f.0, record { column = p; low = omega arith; high = more; row = sym (column_at a j p f.0 more) ∙ f.2 }))
          | inr none ↦ inr (λ q t.
              let low = t.low in
              let high = t.high in
              let e : S + (q - S) ≡ q = omega arith in
              none (q - S) (omega arith) (column_at a j p (q - S) (omega arith) ∙ ap (row_at a) e ∙ t.row))
        ]

module _ (a : Arrays) (i j : ℕ) where
  inside : Position a j → place_at a i j ≡ place_in a i j
  inside p = cond-true (ltb 0 j && leb j (size_in a)) (place_in a i j) None (and_from _ _ (lt-ltb 0 j p.low) (le-leb j (size_in a) p.high))

  pub place_found : (q : ℕ) → Place a i j q → place_at a i j ≡ Some q
  place_found q t =
      let S = start_in a j in
      let T = start_in a (j + 1) in
      let p = t.column in
      let low = t.low in
      let high = t.high in
      let long = column_length a j p in
      let e : S + (q - S) ≡ q = omega arith in
      inside p
      ∙ ap (λ xs. index_from S xs i) (column_is a j p)
      ∙ index_found (between S T a.rows) S i (q - S)
      (λ x y l h. omega (arith, column_at a j p x (omega arith), column_at a j p y (omega arith), rising a j p (S + x) (S + y) (omega arith) (omega arith) (omega arith)))
      (omega arith) (column_at a j p (q - S) (omega arith) ∙ ap (row_at a) e ∙ t.row)
      ∙ ap (λ x. Some x) e

  pub place_none : Keeps a → ((q : ℕ) → Place a i j q → ⊥) → place_at a i j ≡ None
  place_none keeps none = elim (cases_Bool (ltb 0 j && leb j (size_in a))) [
    | inr out ↦ cond-false (ltb 0 j && leb j (size_in a)) (place_in a i j) None out
    | inl here ↦
        (let parts = and_parts (ltb 0 j) (leb j (size_in a)) here in
        let p : Position a j = record { keeps = keeps; low = ltb-true 0 j parts.0; high = leb-true j (size_in a) parts.1 } in
        let S = start_in a j in
        let T = start_in a (j + 1) in
        inside p
        ∙ ap (λ xs. index_from S xs i) (column_is a j p)
        ∙ index_none (between S T a.rows) S i (λ k h e.
        let more : S + k < T = omega (arith, column_length a j p) in
        none (S + k) (record { column = p; low = omega arith; high = more; row = sym (column_at a j p k more) ∙ e })))
  ]

module _ {X : Type 0} (e : X) (a : Arrays) (w : List X) (i j : ℕ) where
  pub at_place : (q : ℕ) → Place a i j q → matrix_of e a w i j ≡ get_or w q e
  at_place q t = ap (number_at e w) (place_found a i j q t)

  pub no_place : Keeps a → ((q : ℕ) → Place a i j q → ⊥) → matrix_of e a w i j ≡ e
  no_place keeps none = ap (number_at e w) (place_none a i j keeps none)

-- a read of a table at the diagonal of column k
pub pivot_read : {X : Type 0} (e : X) (a : Arrays) (k : ℕ) (w : List X) (start : ℕ) (x : X) → Position a k → start ≡ start_in a k
    → start < length w → x ≡ get_or w start x → x ≡ matrix_of e a w k k
pivot_read e a k w start x p is h read =
    get_or_read w start x h read e ∙ ap (λ q. get_or w q e) is ∙ sym (at_place e a w k k (start_in a k) (diagonal a k p))

-- ---- columns close

among_from : (xs : List ℕ) (m i k : ℕ) → k < m → k < length xs → get_or xs k 0 ≡ i → among_rows xs m i ≡ true
among_from [] m i k l h e = absurd (omega (arith, h))
among_from (x ∷ xs) zero i k l h e = absurd (omega (arith, l))
among_from (x ∷ xs) (suc m) i zero l h e = or_left (eqb x i) (among_rows xs m i) (eq-eqb x i e)
among_from (x ∷ xs) (suc m) i (suc k) l h e = or_right (eqb x i) (among_rows xs m i) (among_from xs m i k (omega arith) (omega arith) e)

among_some : (xs : List ℕ) (m i : ℕ) → among_rows xs m i ≡ true → (k : ℕ) × (k < m) × (get_or xs k 0 ≡ i)
among_some [] m i h = absurd (both_ways false refl h)
among_some (x ∷ xs) zero i h = absurd (both_ways false refl h)
among_some (x ∷ xs) (suc m) i h = elim (or_cases (eqb x i) (among_rows xs m i) h) [
  | inl e ↦ (0, omega arith, eqb-true x i e)
  | inr e ↦ (let f = among_some xs m i e in (suc f.0, omega (arith, f.1), f.2))
]

module _ (a : Arrays) (i k : ℕ) (p : Position a k) where
  past_is : get_or a.starts (k - 1 + 1) 0 ≡ start_in a (k + 1)
  past_is = let e : k - 1 + 1 ≡ k + 1 - 1 = omega (arith, p.low) in ap (λ x. get_or a.starts x 0) e

  place_holds : (q : ℕ) → Place a i k q → holds a.starts a.rows (k - 1) i ≡ true
  place_holds q t =
      let S = start_in a k in
      let low = t.low in
      let high = t.high in
      let e : S + (q - S) ≡ q = omega arith in
      among_from (drop S a.rows) (get_or a.starts (k - 1 + 1) 0 - S) i (q - S) (omega (arith, past_is))
      (omega (arith, length-drop S a.rows, column_ends a k p)) (get_or-drop S a.rows (q - S) 0 ∙ ap (row_at a) e ∙ t.row)

  holds_place : holds a.starts a.rows (k - 1) i ≡ true → (q : ℕ) × Place a i k q
  holds_place h =
      let S = start_in a k in
      let f = among_some (drop S a.rows) (get_or a.starts (k - 1 + 1) 0 - S) i h in
      (S + f.0, record { column = p; low = omega arith; high = omega (arith, f.1, past_is); row = sym (get_or-drop S a.rows f.0 0) ∙ f.2 })

-- of two rows below the diagonal of one column, the later is in the column of the earlier
pub closing : (a : Arrays) (k : ℕ) → Position a k → (q t : ℕ) → start_in a k < q → q < t → t < start_in a (k + 1)
    → (x : ℕ) × Place a (row_at a t) (row_at a q) x
closing a k p q t l h u =
    let i = row_at a t in
    let j = row_at a q in
    let here = row_position a k p q l (omega arith) in
    let past = row_past a k p q l (omega arith) in
    let rise = rising a k p q t (omega arith) h u in
    let both : ℕ → Bool = λ c. holds a.starts a.rows c (j - 1 + 1) && holds a.starts a.rows c i in
    let j_is : j ≡ j - 1 + 1 = omega arith in
    let in_q = place_holds a (j - 1 + 1) k p q (record { column = p; low = omega arith; high = omega arith; row = j_is }) in
    let in_t = place_holds a i k p t (record { column = p; low = omega arith; high = u; row = refl }) in
    let fact = p.keeps.closed (j - 1) i (omega (arith, here.high), omega arith) in
    holds_place a i j here
    (fact ∙ or_right (on_sheet a.starts a.rows a.links (j - 1) i) (any_below both (j - 1)) (any_here both (j - 1) (k - 1) (omega (arith, p.low)) (and_from _ _ in_q in_t)))
