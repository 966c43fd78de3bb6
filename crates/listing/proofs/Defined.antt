-- What stands in the arrays that the definitions give.
use Rattle.std.proofs.Common.{◌≡◌, ℕ, zero, suc, ◌+◌, ◌-◌, ◌<◌, ◌≤◌, Bool, false, List, ◌∷◌, ◌++◌, map, length, get_or, drop, sym, refl, ap, ◌∙◌, subst, ap₂, arith}
use Rattle.std.specs.List.{range_with_len, flat_map, AllByRecursion as All}
use Rattle.std.proofs.lemmas.List.FromFn.{length-range_with_len, get_or-range_with_len, get_or-map-range_with_len}
use Rattle.std.proofs.ByRecursion.{All-from_get_or, all_kept_by}
use Rattle.std.proofs.lemmas.List.{length-map, get_or-drop, get_or-map, get_or_append_left, drop_at, drop-drop}
use Rattle.graph.specs.Columns.{column}
use Rattle.graph.specs.Graphs.{Graph, start}
use Rattle.graph.specs.Picking.{Price}
use Rattle.plan.specs.Laid.{laid_rows, laid_marks, sheet_link}
use Rattle.plan.specs.Lookups.{start_in}
use Rattle.plan.specs.Planned.{Arrays, arrays_for}
use Rattle.plan.proofs.Assembled.{joined_at, part_is, part_length}
use Rattle.plan.proofs.Lays.{marks_length}

-- equal pieces, joined
pub joined_same : {X : Type 0} (f h : ℕ → List X) (m s : ℕ) → ((k : ℕ) → s ≤ k → k < s + m → f k ≡ h k) → flat_map f (range_with_len s m) ≡ flat_map h (range_with_len s m)
joined_same f h zero s e = refl
joined_same f h (suc m) s e =
    ap₂ (λ xs ys. xs ++ ys) (e s (omega arith) (omega arith)) (joined_same f h m (s + 1) (λ k l u. e k (omega arith) (omega arith)))

-- what holds of each position
pub each_position : (n : ℕ) (P : ℕ → Type 0) → ((j : ℕ) → j < n → P (j + 1)) → (k : ℕ) → 1 ≤ k → k < 1 + n → P k
each_position n P p k l h = let e : k - 1 + 1 ≡ k = omega arith in subst P e (p (k - 1) (omega arith))

module _ (price : Price) (n : ℕ) (linked : ℕ → ℕ → Bool) where
  abbrev g : Graph
  g = start n linked

  abbrev a : Arrays
  a = arrays_for price n linked

  abbrev col : ℕ → List ℕ
  col = column price g n

  abbrev mark : ℕ → ℕ → Bool
  mark = sheet_link price g

  -- the rows of column k are positions above k
  pub rows_all : (P : ℕ → Type 0) (k : ℕ) → ((i : ℕ) → k < i → i ≤ n → P i) → All P (col k)
  rows_all P k p =
      all_kept_by _ P (range_with_len (k + 1) (n - k)) (All-from_get_or P (range_with_len (k + 1) (n - k)) 0 (λ i l.
      let few : i < n - k = omega (arith, length-range_with_len (k + 1) (n - k)) in
      subst P (sym (get_or-range_with_len (k + 1) (n - k) i 0 few)) (p (k + 1 + i) (omega arith) (omega arith))))

  module _ (j : ℕ) (h : j < n) where
    -- the place at which column j + 1 starts
    abbrev first : ℕ
    first = get_or a.starts j 0

    abbrev later_rows : List ℕ
    later_rows = flat_map (λ k. k ∷ col k) (range_with_len (j + 1 + 1) (n - (j + 1)))

    abbrev later_marks : List Bool
    later_marks = flat_map (λ k. false ∷ map (mark k) (col k)) (range_with_len (j + 1 + 1) (n - (j + 1)))

    pub start_is : start_in a (j + 1) ≡ first
    start_is = let e : j + 1 - 1 ≡ j = omega arith in ap (λ x. get_or a.starts x 0) e

    pub span_is : start_in a (j + 1 + 1) - (start_in a (j + 1) + 1) ≡ length (col (j + 1))
    span_is =
        let e : j + 1 + 1 - 1 ≡ j + 1 = omega arith in
        omega (arith, ap (λ x. get_or a.starts x 0) e, start_is, part_length col n j h)

    rows_from : drop (first + 1) a.rows ≡ col (j + 1) ++ later_rows
    rows_from = sym (drop-drop 1 first a.rows) ∙ ap (drop 1) (part_is col n j h)

    marks_from : drop (first + 1) a.links ≡ map (mark (j + 1)) (col (j + 1)) ++ later_marks
    marks_from =
        sym (drop-drop 1 first a.links)
        ∙ ap (λ ls. drop 1 (drop first ls)) (joined_at (λ k. false ∷ map (mark k) (col k)) n j h)
        ∙ ap (drop 1)
        (drop_at (laid_marks col mark j) _ first
        (marks_length col mark j 1 ∙ sym (get_or-map-range_with_len (λ m. length (laid_rows col m)) 0 (n + 1) j j 0 (omega arith) (omega arith))))

    -- the row at a place of the column
    pub row_is : (i : ℕ) → i < length (col (j + 1)) → get_or a.rows (first + 1 + i) 0 ≡ get_or (col (j + 1)) i 0
    row_is i l =
        sym (get_or-drop (first + 1) a.rows i 0) ∙ ap (λ xs. get_or xs i 0) rows_from ∙ get_or_append_left (col (j + 1)) later_rows 0 i l

    -- and whether it is a link of the sheet
    pub mark_is : (i : ℕ) → i < length (col (j + 1)) → get_or a.links (first + 1 + i) false ≡ mark (j + 1) (get_or (col (j + 1)) i 0)
    mark_is i l =
        let marks = map (mark (j + 1)) (col (j + 1)) in
        let m : i < length marks = omega (arith, length-map (col (j + 1)) (mark (j + 1))) in
        sym (get_or-drop (first + 1) a.links i false) ∙ ap (λ xs. get_or xs i false) marks_from
        ∙ get_or_append_left marks later_marks false i m ∙ get_or-map (mark (j + 1)) (col (j + 1)) i 0 false l
