-- A loop over the rows of a column and the numbers beside them.
use Rattle.std.proofs.Common.{◌≡◌, ℕ, ◌+◌, ◌<◌, List, length, get_or, Some, None, Option, ap, ◌∙◌, arith}
use denote.Ref.{Bor}
use Rattle.std.specs.List.{between}
use Rattle.std.specs.Iterator.{Yields}
use Rattle.std.specs.Iterator.Adapters.{zip_first, zip_second}
use Rattle.std.specs.Slice.Iter.{iter_rest}
use Rattle.std.specs.declared.iter.Zip.{Zip}
use Rattle.std.specs.declared.slice.Iter.{Iter}
use Rattle.std.proofs.iter.Yields.{fronts}
use Rattle.std.proofs.lemmas.Iterator.{zips}
use Rattle.std.proofs.lemmas.List.Edits.{length-between, get_or-between}
use Rattle.std.proofs.lemmas.Slice.Zip.{zip_turn, zip_end}
use Rattle.plan.specs.Lookups.{start_in, rows_in}
use Rattle.plan.specs.Planned.{Arrays}
use Rattle.plan.specs.Positions.{Position}
use Rattle.plan.proofs.Spans.{row_at, column_some, column_ends, rows_long, row_there}

-- a row of column k and its number in a table, at one place
pub record Turn {X : Type 0} (e : X) (a : Arrays) (k : ℕ) (w : List X) (place row : ℕ) (number : X) : Type 0 where
  pub low : start_in a k < place
  pub high : place < start_in a (k + 1)
  pub row_is : row ≡ row_at a place
  pub number_is : number ≡ get_or w place e

module _ {X : Type 0} (e : X) (a : Arrays) (k : ℕ) (column : Position a k) (w : List X) (rows : List ℕ) (start past : ℕ)
    (xs : List (Bor ℕ × Bor X)) (s t u : Zip (Iter ℕ) (Iter X)) (r : Option (Bor ℕ × Bor X))
    (rows_are : rows ≡ rows_in a k) (start_is : start ≡ start_in a k) (past_is : past ≡ start_in a (k + 1))
    (first : iter_rest (zip_first s) ≡ rows) (second : iter_rest (zip_second s) ≡ between (start + 1) past w)
    (yielded : Yields (zips fronts fronts) s xs t) where
  pub row_turn : (p : Bor ℕ × Bor X) → r ≡ Some p → zips fronts fronts t r u → Turn e a k w (start_in a k + 1 + length xs) p.0.now p.1.now
  row_turn p is step =
      let f = zip_turn rows (between (start + 1) past w) xs s t u r first second yielded p is step in
      let i = length xs in
      let h : i < length (rows_in a k) = omega (arith, f.0, ap length rows_are) in
      let high : start_in a k + 1 + i < start_in a (k + 1) = omega (arith, rows_long a k column) in
      record {
        low = omega arith;
        high = high;
        row_is = f.2 0 ∙ ap (λ l. get_or l i 0) rows_are ∙ row_there a k column i h;
        number_is = f.3 e ∙ get_or-between w (start + 1) past i e (omega arith) ∙ ap (λ x. get_or w (x + 1 + i) e) start_is;
      }

  pub rows_end : length w ≡ length a.rows → r ≡ None → zips fronts fronts t r u → start_in a k + 1 + length xs ≡ start_in a (k + 1)
  rows_end long is step =
      let f = zip_end rows (between (start + 1) past w) xs s t u r first second yielded is step in
      omega (
        arith,
        f,
        ap length rows_are,
        rows_long a k column,
        length-between w (start + 1) past (omega (arith, column_ends a k column)),
        column_some a k column,
      )
