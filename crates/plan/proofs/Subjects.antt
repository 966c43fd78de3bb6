-- What the look-ups answer of the plan that the definitions give.
use Rattle.std.proofs.Common.{◌≡◌, ℕ, zero, suc, ◌+◌, ◌-◌, ◌<◌, ◌≤◌, Bool, true, eqb, List, [], ◌∷◌, ◌++◌, length, get_or, take, drop, sym, refl, ap, ◌∙◌, ap₂, arith}
use Rattle.std.specs.List.{range_with_len, flat_map}
use Rattle.std.proofs.lemmas.List.FromFn.{get_or-map-range_with_len, length-map-range_with_len}
use Rattle.std.proofs.lemmas.List.{take_at, drop-drop}
use Rattle.std.proofs.lemmas.Bool.{or_left, eq-eqb}
use Rattle.graph.specs.Columns.{label_at, column, lowest, member}
use Rattle.graph.specs.Graphs.{Graph, start}
use Rattle.graph.specs.Picking.{Price, picked, order, place_from}
use Rattle.graph.proofs.Members.{row_between}
use Rattle.graph.proofs.Orders.{label, apart}
use Rattle.plan.specs.Lookups.{rows_in, first_label, start_in}
use Rattle.plan.specs.Planned.{Arrays, arrays_for}
use Rattle.plan.specs.Subject.{label_up, Answers}
use Rattle.plan.proofs.Assembled.{part_is, part_length, laid_places}
use Rattle.plan.proofs.Finished.{place_at}

module _ (price : Price) (n : ℕ) (linked : ℕ → ℕ → Bool) where
  abbrev g : Graph
  g = start n linked

  abbrev A : Arrays
  A = arrays_for price n linked

  abbrev col : ℕ → List ℕ
  col = column price g n

  order_length : length (order price g n) ≡ n
  order_length = length-map-range_with_len (λ j. picked price g j) 0 n

  order_at : (k : ℕ) → k < n → get_or (order price g n) k 0 ≡ picked price g k
  order_at k h = get_or-map-range_with_len (λ j. picked price g j) 0 n k k 0 h (omega arith)

  position_is : (k : ℕ) → 1 ≤ k → k ≤ n → get_or A.positions (label_at price g k - 1) 0 ≡ k
  position_is k l h =
      let v = picked price g (k - 1) in
      let b = label price n linked (k - 1) (omega arith) in
      let once : (i j : ℕ) → i < j → j < length (order price g n) → get_or (order price g n) i 0 ≡ get_or (order price g n) j 0 → ⊥ =
      λ i j p q e. apart price n linked i j p (omega (arith, order_length)) (sym (order_at i (omega (arith, order_length))) ∙ e ∙ order_at j (omega (arith, order_length))) in
      grind (
        arith,
        l,
        order_at (k - 1) (omega arith),
        get_or-map-range_with_len (place_from 1 (order price g n)) 1 n (v - 1) v 0 (omega (arith, b.0, b.1)) (omega (arith, b.0)),
        place_at (order price g n) 1 (k - 1) once (omega (arith, order_length)),
      )

  rows_are : (k : ℕ) → 1 ≤ k → k ≤ n → rows_in A k ≡ col k
  rows_are k l h =
      let s = start_in A k in
      let k_is : k - 1 + 1 ≡ k = omega arith in
      let next : k ≡ k + 1 - 1 = omega arith in
      let rest = flat_map (λ j. j ∷ col j) (range_with_len (k - 1 + 1 + 1) (n - (k - 1 + 1))) in
      let part : drop s A.rows ≡ ((k - 1 + 1) ∷ col (k - 1 + 1)) ++ rest = part_is col n (k - 1) (omega arith) in
      let long : start_in A (k + 1) - s ≡ length ((k - 1 + 1) ∷ col (k - 1 + 1)) = ap (λ x. get_or A.starts x 0 - s) (sym next ∙ sym k_is) ∙ part_length col n (k - 1) (omega arith) in
      let count : start_in A (k + 1) - (s + 1) ≡ length (col (k - 1 + 1)) = omega (arith, long) in
      let tail : drop (s + 1) A.rows ≡ col (k - 1 + 1) ++ rest = sym (drop-drop 1 s A.rows) ∙ ap (drop 1) part in
      ap₂ (λ m xs. take m xs) count tail ∙ take_at (col (k - 1 + 1)) rest (length (col (k - 1 + 1))) refl ∙ ap col k_is

  -- the first of the rows of a column, by its label
  up_is : (k : ℕ) (rows : List ℕ) → ((i : ℕ) → member i rows ≡ true → (k < i) × (i ≤ n)) → first_label A rows ≡ label_up price g (lowest rows)
  up_is k [] h = refl
  up_is k (i ∷ is) h =
      let b = h i (or_left (eqb i i) (member i is) (eq-eqb i i refl)) in
      order_at (i - 1) (omega (arith, b.0, b.1)) ∙ positive i (omega (arith, b.0)) where
        positive : (i : ℕ) → 0 < i → label_at price g i ≡ label_up price g i
        positive zero l = absurd (omega arith)
        positive (suc i) l = refl

  pub answers : Answers price n linked
  answers = record {
    size = order_length;
    places = laid_places col n 1;
    labels = λ k l h. order_at (k - 1) (omega arith);
    positions = position_is;
    columns = rows_are;
    parents = λ k l h. ap (first_label A) (rows_are k l h) ∙ up_is k (col k) (row_between price n linked k);
  }
