-- A table is determined by its matrix.
use Rattle.std.proofs.Common.{◌≡◌, ℕ, zero, suc, ◌+◌, ◌-◌, ◌<◌, ◌≤◌, true, List, ◌∷◌, ◌++◌, map, length, get_or, take, drop, Err, Option, Result, sym, refl, ap, ◌∙◌, ap₂, arith}
use Rattle.std.specs.List.{between, range_with_len, flat_map}
use Rattle.std.proofs.lemmas.List.Edits.{length-between, get_or-between}
use Rattle.std.proofs.lemmas.List.{ext_get_or, length-map, get_or-map, take-append-drop, take-take, drop-take, take_all}
use Rattle.std.proofs.lemmas.Bool.{cond-true, and_from, eq-eqb}
use Rattle.arith.specs.Operations.{Operations}
use Rattle.plan.specs.Lookups.{size_in, start_in, rows_in}
use Rattle.plan.specs.Planned.{Arrays, Keeps}
use Rattle.plan.proofs.Lays.{joined_more}
use Rattle.square.specs.declared.refusals.Refusal.{Refusal}
use Rattle.square.specs.declared.refusals.Refusal.TheVariants.{WrongLength}
use Rattle.square.specs.Plans.{matrix_of}
use Rattle.numeric.specs.Calls.{table_of, work_of, answer_of, both_fit, Eliminates}
use Rattle.plan.specs.Positions.{Position}
use Rattle.plan.proofs.Spans.{row_at, column_some, column_ends}
use Rattle.numeric.proofs.Layouts.{column_is, at_place}

-- two parts that meet
take_between : {X : Type 0} (xs : List X) (i j : ℕ) → i ≤ j → take i xs ++ between i j xs ≡ take j xs
take_between xs i j h =
    let e : i + (j - i) ≡ j = omega arith in
    ap₂ (λ l r. l ++ r) (sym (take-take i j xs h)) (sym (drop-take i (j - i) xs) ∙ ap (λ m. drop i (take m xs)) e) ∙ take-append-drop i (take j xs)

module _ {X : Type 0} (e : X) (a : Arrays) (keeps : Keeps a) (w : List X) (long : length w ≡ length a.rows) where
  abbrev column_of : ℕ → List X
  column_of k = map (λ i. matrix_of e a w i k) (k ∷ rows_in a k)

  column_of_lem : (k : ℕ) → Position a k → column_of k ≡ between (start_in a k) (start_in a (k + 1)) w
  column_of_lem k p =
      let S = start_in a k in
      let T = start_in a (k + 1) in
      let f : ℕ → X = λ i. matrix_of e a w i k in
      let rows = between S T a.rows in
      let some = column_some a k p in
      let ends = column_ends a k p in
      let rows_long : length rows ≡ T - S = length-between a.rows S T ends in
      let map_long = length-map rows f in
      let part_long : length (between S T w) ≡ T - S = length-between w S T (omega arith) in
      ap (map f) (column_is a k p) ∙ ext_get_or e (map f rows) (between S T w) (omega arith) (λ x h.
      let more : S + x < T = omega arith in
      get_or-map f rows x 0 e (omega arith)
      ∙ ap f (get_or-between a.rows S T x 0 more)
      ∙ at_place e a w (row_at a (S + x)) k (S + x) (record { column = p; low = omega arith; high = more; row = refl })
      ∙ sym (get_or-between w S T x e more))

  columns_of : (m : ℕ) → m ≤ size_in a → flat_map column_of (range_with_len 1 m) ≡ take (start_in a (m + 1)) w
  columns_of zero h = ap (λ x. take x w) (sym keeps.starting.0)
  columns_of (suc m) h =
      let p : Position a (suc m) = record { keeps = keeps; low = omega arith; high = h } in
      let count : suc m ≡ m + 1 = omega arith in
      let next : m + 1 ≡ suc m = omega arith in
      ap (λ x. flat_map column_of (range_with_len 1 x)) count
      ∙ joined_more column_of m 1 (suc m) (omega arith)
      ∙ ap₂ (λ l r. l ++ r) (columns_of m (omega arith) ∙ ap (λ x. take (start_in a x) w) next) (column_of_lem (suc m) p)
      ∙ take_between w (start_in a (suc m)) (start_in a (suc m + 1)) (omega (arith, column_some a (suc m) p))

  pub table_of_matrix : table_of a (matrix_of e a w) ≡ w
  table_of_matrix =
      let end : start_in a (size_in a + 1) ≡ length a.rows = (let q : size_in a + 1 - 1 ≡ size_in a = omega arith in ap (λ x. get_or a.starts x 0) q ∙ keeps.starting.1) in
      columns_of (size_in a) (omega arith) ∙ take_all (start_in a (size_in a + 1)) w (omega arith)

-- a worked table whose matrix is the full square's
pub eliminates : {X : Type 0} (o : Operations X) (a : Arrays) (entered before : List X) (r : Result (Unit {0}) Refusal) (w : List X) (stuck : Option (ℕ × ℕ)) → Keeps a
    → length entered ≡ length a.rows → length before ≡ length a.rows → length w ≡ length a.rows
    → work_of o a entered ≡ record { numbers = matrix_of o.nothing a w; stuck = stuck } → r ≡ answer_of a stuck → Eliminates o a entered before r w
eliminates o a entered before r w stuck keeps entered-long before-long long is answer =
    let fit : both_fit a entered before ≡ true = and_from _ _ (eq-eqb _ _ entered-long) (eq-eqb _ _ before-long) in
    record {
      answer = answer ∙ sym (ap (λ u. answer_of a u.stuck) is) ∙ sym (cond-true (both_fit a entered before) _ (Err WrongLength) fit);
      table = sym (table_of_matrix o.nothing a keeps w long) ∙ sym (ap (λ u. table_of a u.numbers) is) ∙ sym (cond-true (both_fit a entered before) _ before fit);
      matrix = λ _ i j. sym (ap (λ u. u.numbers i j) is);
    }
